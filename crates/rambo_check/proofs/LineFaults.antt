-- Faults of a line, from those of what follows its first words
use Rattle.std.proofs.Common.{◌≡◌, ◌≢◌, ◌⊎◌, inl, inr, ℕ, suc, List, [], ◌∷◌, Bool, true, false, cond, Option, None, Some, codes, map, refl, sym, ap, ◌∙◌, subst}
use Rattle.std.specs.Borrow.{Bor}
use Rattle.std.specs.Option.{option_copied, is_some}
use Rattle.std.specs.Str.{bytes_eq}
use Rattle.std.proofs.lemmas.Slice.Eq.{bytes_eq-Decides}
use Rattle.rambo_names.specs.Weights.{Weights}
use Rattle.rambo_names.specs.Signs.{conf_text}
use Rattle.rambo_text.specs.declared.fault.Fault.{Fault}
use Rattle.rambo_text.specs.declared.fault.Fault.TheVariants.{UnknownWord, WrongCount, OutOfMemory}
use Rattle.rambo_text.specs.declared.version.Version.{Version}
use Rattle.rambo_text.specs.declared.version.Version.TheVariants.{One, Two}
use Rattle.rambo_text.specs.Forms.{Form, Num, Name, Conf, Call, Hex, IsBadWord}
use Rattle.rambo_text.specs.Words.{AreMore, IsFirstWord}
use Rattle.rambo_text.proofs.WordSplits.{words_joined}
use Rattle.rambo_check.specs.Plans.{Plan, Forms, each, call_plan, answer_plan, sequence_plan, order_plan, map_plan, tells_order, plan, IsPlanFault, IsLineFault, HaveBytes, HasBytes, FollowBytes, FollowCalls, TellsBytesOrCalls, IsFaulty}
use Rattle.rambo_text.proofs.WordsThere.{more_has_words}
use Rattle.rambo_check.proofs.Rows.{length-each}

else_so : {X : Type 0} (b : Bool) (x y : X) → false ≡ b → cond b x y ≡ y
else_so true x y e = cc
else_so false x y e = refl

-- a line's fault is that of the words behind the first
pub line_fault : (v : Version) (line first : List ℕ) (more : Option (List ℕ)) (p : List (List ℕ) → Plan) (f : Fault) → IsFirstWord line first more
    → ((ws : List (List ℕ)) → plan v (first ∷ ws) ≡ p ws) → IsFaulty p more f → ((f ≡ OutOfMemory) × TellsBytesOrCalls v line) ⊎ IsLineFault v line f
line_fault v line first more p f is same (inl memory) =
    let bytes = memory.1 in
    inl (memory.0, (first ∷ bytes.0, words_joined line first more bytes.0 is bytes.1, inl (subst HasBytes (sym (same bytes.0)) bytes.2)))
line_fault v line first more p f is same (inr bad) =
    inr (first ∷ bad.0, words_joined line first more bad.0 is bad.1, subst (λ q. IsPlanFault q f) (sym (same bad.0)) bad.2)

-- what a line may have is said by its first word
pub plan_word : (v : Version) (w text : List ℕ) → true ≡ bytes_eq w text → (ws : List (List ℕ)) → plan v (w ∷ ws) ≡ plan v (text ∷ ws)
plan_word v w text is ws = ap (λ u. plan v (u ∷ ws)) ((bytes_eq-Decides w text).0 (sym is))

-- a line that tells an order of all keys' calls
pub plan_order : (v : Version) (w : List ℕ) → true ≡ tells_order v w → (ws : List (List ℕ)) → plan v (w ∷ ws) ≡ order_plan ws
plan_order One w is ws = cc
plan_order Two w is ws = plan_word Two w (codes "order") is ws

pub order_word : (v : Version) (w : List ℕ) → true ≡ tells_order v w → (v ≡ Two) × (w ≡ codes "order")
order_word One w is = cc
order_word Two w is = (refl, (bytes_eq-Decides w (codes "order")).0 (sym is))

-- and its fault
pub order_fault : (v : Version) (line w : List ℕ) (more : Option (List ℕ)) (f : Fault) → IsFirstWord line w more → true ≡ tells_order v w
    → ((f ≡ OutOfMemory) × FollowCalls more) ⊎ IsFaulty order_plan more f → ((f ≡ OutOfMemory) × TellsBytesOrCalls v line) ⊎ IsLineFault v line f
order_fault v line w more f first is (inl memory) =
    let calls = memory.1 in
    let word = order_word v w is in
    inl (memory.0, (w ∷ calls.0, words_joined line w more calls.0 first calls.1, inr (word.0, (calls.0, ap (λ u. u ∷ calls.0) word.1, calls.2))))
order_fault v line w more f first is (inr bad) = line_fault v line w more order_plan f first (plan_order v w is) bad

pub plan_unknown : (v : Version) (w : List ℕ) (more : Option (List ℕ)) → bytes_eq w (codes "call") ≡ false → bytes_eq w (codes "answer") ≡ false
    → bytes_eq w (codes "sequence") ≡ false → false ≡ bytes_eq w (codes "collected") → false ≡ bytes_eq w (codes "decided")
    → false ≡ bytes_eq w (codes "refused") → false ≡ bytes_eq w (codes "map") → tells_order v w ≡ false → IsFaulty (λ ws. plan v (w ∷ ws)) more UnknownWord
plan_unknown v w more a b f c d e g h =
    let all = more_has_words more in
    inr (
      all.0,
      all.1,
      subst (λ q. IsPlanFault q UnknownWord)
          (sym (else_so _ _ _ (sym a) ∙ else_so _ _ _ (sym b) ∙ else_so _ _ _ c ∙ else_so _ _ _ d ∙ else_so _ _ _ e ∙ else_so _ _ _ (sym f) ∙ else_so _ _ _ g ∙ else_so _ _ _ (sym h))) refl,
    )

pub call_unknown : (start more : Option (List ℕ)) (id kind : List ℕ) → ((ws : List (List ℕ)) → AreMore more ws → AreMore start (id ∷ kind ∷ ws))
    → false ≡ bytes_eq kind (codes "get") → false ≡ bytes_eq kind (codes "set") → IsFaulty call_plan start UnknownWord
call_unknown start more id kind two a b =
    let all = more_has_words more in
    inr (id ∷ kind ∷ all.0, two all.0 all.1, subst (λ q. IsPlanFault q UnknownWord) (sym (else_so _ _ _ a ∙ else_so _ _ _ b)) refl)

pub answer_unknown : (start more : Option (List ℕ)) (id kind : List ℕ) → ((ws : List (List ℕ)) → AreMore more ws → AreMore start (id ∷ kind ∷ ws))
    → false ≡ bytes_eq kind (codes "ok") → false ≡ bytes_eq kind (codes "nil") → false ≡ bytes_eq kind (codes "value") → IsFaulty answer_plan start UnknownWord
answer_unknown start more id kind two a b d =
    let all = more_has_words more in
    inr (id ∷ kind ∷ all.0, two all.0 all.1, subst (λ q. IsPlanFault q UnknownWord) (sym (else_so _ _ _ a ∙ else_so _ _ _ b ∙ else_so _ _ _ d)) refl)

-- the words of a sequence
pub sequence_bad : (start : Option (List ℕ)) (k : List ℕ) (ws : List (List ℕ)) (f : Fault) → AreMore start (k ∷ ws) → IsBadWord (Hex ∷ each Call ws) (k ∷ ws) f
    → IsFaulty sequence_plan start f
sequence_bad start k ws f all bad = inr (k ∷ ws, all, inr (ap suc (length-each Call ws), bad))

pub sequence_bytes : (start : Option (List ℕ)) (k : List ℕ) (ws : List (List ℕ)) → AreMore start (k ∷ ws) → FollowBytes sequence_plan start
sequence_bytes start k ws all = (k ∷ ws, all, (ap suc (length-each Call ws), inl refl))

-- a row of other words has no bytes
no_bytes : (m : Form) (ws : List (List ℕ)) → m ≢ Hex → HaveBytes (each m ws) ws → ⊥
no_bytes m [] other have = have
no_bytes m (w ∷ ws) other (inl is) = other is
no_bytes m (w ∷ ws) other (inr later) = no_bytes m ws other later.1

-- a row's fault
pub row_bad : (m : Form) (more : Option (List ℕ)) (f : Fault) → IsFaulty (λ ws. Forms (each m ws) ws) more f
    → m ≢ Hex → (ws : List (List ℕ)) × AreMore more ws × IsBadWord (each m ws) ws f
row_bad m more f (inl memory) other = absurd (no_bytes m memory.1.0 other memory.1.2.1)
row_bad m more f (inr bad) other = elim bad.2 [ inl h ↦ absurd (h.0 (length-each m bad.0)) | inr h ↦ (bad.0, bad.1, h.1) ]

-- the words of a map
pub map_bad : (start : Option (List ℕ)) (more : Option (Bor (List ℕ))) (n p : List ℕ) (ws : List (List ℕ)) (f : Fault) → is_some more ≡ true
    → AreMore (option_copied more) ws → AreMore start (n ∷ p ∷ ws) → IsBadWord (Name ∷ Num ∷ each Conf ws) (n ∷ p ∷ ws) f → IsFaulty map_plan start f
map_bad start None n p ws f some all whole bad = cc
map_bad start (Some rest) n p [] f some all whole bad = absurd (all.some refl)
map_bad start (Some rest) n p (v ∷ vs) f some all whole bad =
    inr (n ∷ p ∷ v ∷ vs, whole, inr (ap (λ k. suc (suc (suc k))) (length-each Conf vs), bad))

pub map_short : (start : Option (List ℕ)) (more : Option (Bor (List ℕ))) (n p : List ℕ) → is_some more ≡ false
    → ((ws : List (List ℕ)) → AreMore (option_copied more) ws → AreMore start (n ∷ p ∷ ws)) → IsFaulty map_plan start WrongCount
map_short start None n p none two = inr (n ∷ p ∷ [], two [] refl, inl ((λ e. cc), refl))
map_short start (Some rest) n p none two = cc

-- a map has a configuration
pub some_confs : (more : Option (Bor (List ℕ))) (words : List (List ℕ)) → is_some more ≡ true → AreMore (option_copied more) words → words ≢ []
some_confs None words some all = cc
some_confs (Some rest) words some all = all.some

pub no_confs : (confs : List Weights) → map conf_text confs ≢ [] → confs ≢ []
no_confs [] some = λ e. some refl
no_confs (s ∷ ss) some = λ e. cc
