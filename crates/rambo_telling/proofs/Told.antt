-- What a stream took, part by part
use Rattle.std.proofs.Common.{◌≡◌, ℕ, List, ◌++◌, Result, Ok, Err, sym, ap, subst, ◌∙◌, append_assoc, inl, inr}
use Rattle.std.specs.Prelude.{Option, Some, None, OnOk, OnErr}
use Rattle.std.specs.Io.KnownBytes.{Appends}
use Rattle.rambo_atomic.specs.Streams.{counted, Begins}
use Rattle.rambo_telling.specs.Telling.{Stream, Breaks, Takes, Tells, stream}

-- a text is told by a call, whether that succeeds or fails
pub told_by : {T E : Type 0} (r : Result T E) (text : List ℕ) (s : Stream) → OnOk r (Takes text s) → OnErr r (Breaks text s) → Tells text s
told_by (Ok x) text s takes breaks = inl takes
told_by (Err f) text s takes breaks = inr breaks

-- one text behind another
appends_both : (a b : List ℕ) (x y z : Option (List ℕ)) → Appends x y a → Appends y z b → Appends x z (a ++ b)
appends_both a b None y z front back = tt
appends_both a b (Some xs) None z front back = absurd front
appends_both a b (Some xs) (Some ys) None front back = absurd back
appends_both a b (Some xs) (Some ys) (Some zs) front back = back ∙ ap (λ l. l ++ b) front ∙ append_assoc xs a b

-- a line of two numbers: up to the first or the second of them, and from there on
module _ (a n b l f : List ℕ) where
  pub from_first : (((a ++ n) ++ b) ++ l) ++ f ≡ (a ++ n) ++ (b ++ (l ++ f))
  from_first = append_assoc ((a ++ n) ++ b) l f ∙ append_assoc (a ++ n) b (l ++ f)

  pub from_second : (((a ++ n) ++ b) ++ l) ++ f ≡ (a ++ n) ++ ((b ++ l) ++ f)
  from_second = ap (λ r. r ++ f) (append_assoc (a ++ n) b l) ∙ append_assoc (a ++ n) (b ++ l) f

module _ {E : Type 0} (taken : E → Option (List ℕ)) (failures : E → ℕ) where
  -- the first part was taken
  pub takes_first : (a b : List ℕ) (x y : E) → b ≡ a → Appends (taken x) (taken y) b → failures y ≡ failures x → Takes a (stream taken failures x y)
  takes_first a b x y is appends fine = record { fine = fine; taken = subst (Appends (taken x) (taken y)) is appends }

  -- and one more
  pub takes_next : (a b d : List ℕ) (x y z : E) → Takes a (stream taken failures x y) → d ≡ b → Appends (taken y) (taken z) d → failures z ≡ failures y
      → Takes (a ++ b) (stream taken failures x z)
  takes_next a b d x y z front is appends fine =
      record { fine = fine ∙ front.fine; taken = appends_both a b _ _ _ front.taken (subst (Appends (taken y) (taken z)) is appends) }

  -- the same text, written otherwise
  pub takes_same : (a b : List ℕ) (x y : E) → b ≡ a → Takes a (stream taken failures x y) → Takes b (stream taken failures x y)
  takes_same a b x y is takes = subst (λ t. Takes t (stream taken failures x y)) (sym is) takes

  -- a part wasn't
  pub breaks_next : (text a b c d : List ℕ) (x y z : E) → text ≡ a ++ (b ++ c) → Takes a (stream taken failures x y) → d ≡ b → Begins (taken y) (taken z) d
      → failures z ≡ counted (failures y) → Breaks text (stream taken failures x z)
  breaks_next text a b c d x y z is front same begins failed = record {
    failed = failed ∙ ap counted front.fine;
    taken = (
      a ++ begins.0,
      begins.1 ++ c,
      is ∙ ap (λ r. a ++ (r ++ c)) (sym same ∙ begins.2) ∙ ap (λ r. a ++ r) (append_assoc begins.0 begins.1 c) ∙ sym (append_assoc a begins.0 _),
      appends_both a begins.0 _ _ _ front.taken begins.3,
    );
  }
