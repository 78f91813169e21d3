-- No two marks of a run tie, so what a run gives is the only list that is so
use Rattle.std.proofs.Common.{◌≡◌, ◌≢◌, ◌<◌, ℕ, suc, zero, true, false, if◌then◌else◌, List, [], ◌∷◌, length, get_or, refl, sym, ap, ◌∙◌, subst, inl, inr, arith, bytes_eq}
use Rattle.std.specs.List.{AllPairs, AllByRecursion}
use Rattle.std.proofs.lemmas.List.Elements.{All-from_recursion, filter_passes}
use Rattle.std.proofs.lemmas.List.Kept.{AllPairs-cons, AllPairs-filter}
use Rattle.rambo_names.specs.Quorums.{QuorumSystem, IsSound}
use Rattle.rambo_tag.proofs.Keys.{bytes_eq-true}
use Rattle.rambo_history.specs.declared.event.Event.{Event}
use Rattle.rambo_history.specs.Calls.{key_of, is_get}
use Rattle.rambo_sequence.specs.declared.mark.Mark.{Mark}
use Rattle.rambo_sequence.specs.Sequences.{call_place, rank}
use Rattle.rambo_sequence.specs.Laws.{marks_of, Differ, OneSequence}
use Rattle.rambo_sequence.specs.StoreOrders.{OneOrder}
use Rattle.rambo_node.specs.Steps.{Step}
use Rattle.rambo_run.specs.Worlds.{WorldState}
use Rattle.rambo_run.specs.Runs.{run, given_sequences}
use Rattle.rambo_run.specs.Claims.{MarksDiffer, GivesNoOther}
use Rattle.rambo_run.proofs.Lists.{Member}
use Rattle.rambo_run.proofs.Books.{Apart}
use Rattle.rambo_run.proofs.Before.{books}
use Rattle.rambo_run.proofs.Order.{Differs}
use Rattle.rambo_run.proofs.Sequence.{differs}
use Rattle.rambo_run.proofs.Moments.{moment, worlds, last_moment}
use Rattle.rambo_run.proofs.StoreOrder.{calls_once}

member_all : (P : Mark → Type 0) (ks : List Mark) → ((k : Mark) → Member k ks → P k) → AllByRecursion P ks
member_all P [] f = tt
member_all P (k ∷ ks) f = (f k (inl refl), member_all P ks (λ l i. f l (inr i)))

-- what holds of any two marks of two calls holds of each and each later one
apart_pairs : (P : Mark → Mark → Type 0) (ks : List Mark) → Apart ks → ((a b : Mark) → Member a ks → Member b ks → (b.id ≡ a.id → ⊥) → P a b) → AllPairs P ks
apart_pairs P [] a f = λ i j d l m. absurd (omega (arith, m))
apart_pairs P (k ∷ ks) a f =
    AllPairs-cons P k ks (All-from_recursion (P k) ks (member_all (P k) ks (λ l i. f k l (inl refl) (inr i) (λ e. a.0 l i e)))) (apart_pairs P ks a.1 (λ x y i j. f x y (inr i) (inr j)))

set_first : (h : List Event) (k : Mark) → is_get k.op ≡ false → rank h k ≡ 0
set_first h k g = ap (λ b. if b then suc (call_place k.id h) else zero) g

get_place : (h : List Event) (k : Mark) → is_get k.op ≡ true → rank h k ≡ suc (call_place k.id h)
get_place h k g = ap (λ b. if b then suc (call_place k.id h) else zero) g

-- marks that the order tells apart don't tie
no_tie : (h : List Event) (a b : Mark) → Differs h a b → Differ h a b
no_tie h a b d = record {
  one_set = λ t f g. d t (set_first h a f ∙ sym (set_first h b g));
  places = λ t f g e. d t (get_place h a f ∙ ap suc e ∙ sym (get_place h b g));
}

-- of marks of which no two of one key tie, those of a key don't
of_key : (h : List Event) (key : List ℕ) (marks : List Mark) → AllPairs (λ a b. key_of a.op ≡ key_of b.op → Differ h a b) marks → AllPairs (Differ h) (marks_of key marks)
of_key h key marks f = λ i j d l m.
    let all = filter_passes (λ k. bytes_eq (key_of k.op) key) marks in
    let is_of : (i : ℕ) → i < length (marks_of key marks) → key_of (get_or (marks_of key marks) i d).op ≡ key = λ i l. bytes_eq-true (key_of (get_or (marks_of key marks) i d).op) key (all i d l) in
    AllPairs-filter (λ a b. key_of a.op ≡ key_of b.op → Differ h a b) (λ k. bytes_eq (key_of k.op) key) marks f i j d l m (is_of i (omega (arith, l, m)) ∙ sym (is_of j m))

module _ {Q : Type 0} (s : QuorumSystem Q) (law : IsSound s) (founders : Q) (ss : List (Step Q)) where
  abbrev last : WorldState Q
  last = moment s founders ss (length ss)

  marks_apart : Apart last.marks
  marks_apart = (books s law founders (moment s founders ss) (worlds s founders ss) (length ss)).apart

  last_differ : MarksDiffer last
  last_differ = record {
    calls = apart_pairs (λ a b. a.id ≢ b.id) last.marks marks_apart (λ a b i j n e. n (sym e));
    ties = λ key. of_key last.history key last.marks (apart_pairs (λ a b. key_of a.op ≡ key_of b.op → Differ last.history a b) last.marks marks_apart
        (λ a b i j n e. no_tie last.history a b (differs s law founders (moment s founders ss) (worlds s founders ss) (length ss) a b i j e n)));
  }

  -- no two marks of a run tie
  pub marks_differ : MarksDiffer (run s founders ss)
  marks_differ = subst MarksDiffer (last_moment s founders ss) last_differ

  -- so the given sequences and the given order are the only ones
  pub gives_no_other : OneSequence → OneOrder → GivesNoOther (run s founders ss)
  gives_no_other one_sequence one_order =
      let w = run s founders ss in
      record {
        sequence = λ key calls h. one_sequence w.history w.marks key calls (marks_differ.ties key) h;
        order = λ order h. one_order w.history (given_sequences w) order (calls_once s law founders ss) h;
      }
