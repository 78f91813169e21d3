-- A text tells one evidence, or has one fault
use Rattle.std.proofs.Common.{◌≡◌, ◌≢◌, ◌⊎◌, ℕ, suc, ◌+◌, List, [], ◌∷◌, ◌++◌, length, fold, inl, inr, refl, sym, ap, subst, ◌∙◌, append_assoc}
use Rattle.std.specs.List.{AllByRecursion}
use Rattle.rambo_text.specs.declared.fault.Fault.{Fault}
use Rattle.rambo_text.specs.declared.fault.Fault.TheVariants.{OutOfMemory}
use Rattle.rambo_text.specs.declared.fault.ScriptFault.{ScriptFault}
use Rattle.rambo_text.specs.declared.version.Version.{Version}
use Rattle.rambo_text.specs.declared.version.Version.TheVariants.{One, Two}
use Rattle.rambo_text.specs.Versions.{head_line, IsBehindHead, BehindHead, TellNoVersion, in_whole}
use Rattle.rambo_text.proofs.Heads.{same_lines, one_head, no_version_once, no_bad_head, no_bad_first}
use Rattle.rambo_text.specs.Words.{AreWords, IsFirstLine}
use Rattle.rambo_text.proofs.FirstLines.{no_nothing, first_line_is}
use Rattle.rambo_text.proofs.SpeltWords.{same_bad_word}
use Rattle.rambo_text.proofs.WordSplits.{cut, same_words}
use Rattle.rambo_history.specs.Proper.{EverySplit}
use Rattle.rambo_history.proofs.Splits.{splits-head, splits-tail}
use Rattle.rambo_check.specs.EvidenceStates.{EvidenceState, no_evidence, with_item, IsBadItem, AreGood}
use Rattle.rambo_check.specs.Items.{IsItem, IsLineIn}
use Rattle.rambo_check.specs.Laws.{HasNames, OneReading, OneEvidence, NoToldIsFaulty, OneFault}
use Rattle.rambo_check.specs.Lines.{Item, Happened, Collected, Settled, Refused, Ordered, OrderedAll, Mapped, item_words, items_text}
use Rattle.rambo_history.specs.declared.event.Event.TheVariants as event
use Rattle.rambo_check.specs.Plans.{Plan, Unknown, Missing, Forms, plan, IsPlanFault, IsLineFault}
use Rattle.rambo_check.specs.Texts.{AreLinesOf, IsTold, IsFaultBehind, IsTextFault, IsHeadFault}
use Rattle.rambo_check.proofs.ItemShapes.{line_of, item_are_words, line_lacks, same_item, same_with, same_bad, item_fits}

-- the first line of some lines, and those behind it
text_of : (i : Item) (is : List Item) → items_text (i ∷ is) ≡ line_of i ++ 10 ∷ items_text is
text_of i is = append_assoc (line_of i) (10 ∷ []) (items_text is)

text_before : (i : Item) (is : List Item) (rest : List ℕ) → items_text (i ∷ is) ++ rest ≡ line_of i ++ 10 ∷ (items_text is ++ rest)
text_before i is rest = ap (λ t. t ++ rest) (text_of i is) ∙ append_assoc (line_of i) (10 ∷ items_text is) rest

cut_items : (i j : Item) (p q : List ℕ) → IsItem i → IsItem j → line_of i ++ 10 ∷ p ≡ line_of j ++ 10 ∷ q → (line_of i ≡ line_of j) × (p ≡ q)
cut_items i j p q a b e = cut 10 (line_of i) (line_of j) p q (line_lacks i a) (line_lacks j b) e

-- an item's line isn't empty
some_word : (i : Item) → item_words i ≡ [] ∷ [] → ⊥
some_word (Happened (event.Call c o)) e = cc
some_word (Happened (event.Answer c a)) e = cc
some_word (Collected name place) e = cc
some_word (Settled name place conf) e = cc
some_word (Refused step number) e = cc
some_word (Ordered s) e = cc
some_word (OrderedAll calls) e = cc
some_word (Mapped name floor confs) e = cc

not_empty : (i : Item) → IsItem i → [] ≡ line_of i → ⊥
not_empty i is e = some_word i (same_words (line_of i) (item_words i) ([] ∷ []) (item_are_words i is) (record { some = λ n. cc; no_space = (tt, tt); whole = sym e }))

no_line_more : (is js : List Item) → AllByRecursion IsItem is → AllByRecursion IsItem js → items_text is ++ 10 ∷ [] ≡ items_text js → ⊥
no_line_more [] [] a b e = cc
no_line_more [] (j ∷ js) a b e = not_empty j b.0 (cut 10 [] (line_of j) [] (items_text js) tt (line_lacks j b.0) (e ∙ text_of j js)).0
no_line_more (i ∷ is) [] a b e = no_nothing (line_of i) (items_text is ++ 10 ∷ []) (sym e ∙ text_before i is (10 ∷ []))
no_line_more (i ∷ is) (j ∷ js) a b e =
    no_line_more is js a.1 b.1 (cut_items i j (items_text is ++ 10 ∷ []) (items_text js) a.0 b.0 (sym (text_before i is (10 ∷ [])) ∙ e ∙ text_of j js)).1

-- two lists of lines of one text have one text
one_text : (text : List ℕ) (is js : List Item) → AllByRecursion IsItem is → AllByRecursion IsItem js → AreLinesOf text is → AreLinesOf text js → items_text is ≡ items_text js
one_text text is js a b (inl x) (inl y) = sym x ∙ y
one_text text is js a b (inl x) (inr y) = absurd (no_line_more is js a b (ap (λ t. t ++ 10 ∷ []) (sym x) ∙ y))
one_text text is js a b (inr x) (inl y) = absurd (no_line_more js is b a (ap (λ t. t ++ 10 ∷ []) (sym y) ∙ x))
one_text text is js a b (inr x) (inr y) = sym x ∙ y

same_items : (is js : List Item) → AllByRecursion IsItem is → AllByRecursion IsItem js → AllByRecursion HasNames is → AllByRecursion HasNames js → items_text is ≡ items_text js → is ≡ js
same_items [] [] a b x y e = refl
same_items [] (j ∷ js) a b x y e = absurd (no_nothing (line_of j) (items_text js) (e ∙ text_of j js))
same_items (i ∷ is) [] a b x y e = absurd (no_nothing (line_of i) (items_text is) (sym e ∙ text_of i is))
same_items (i ∷ is) (j ∷ js) a b x y e =
    let parts = cut_items i j (items_text is) (items_text js) a.0 b.0 (sym (text_of i is) ∙ e ∙ text_of j js) in
    (λ t. same_item i j a.0 b.0 x.0 y.0 parts.0 t ∷ same_items is js a.1 b.1 x.1 y.1 parts.1 t)

pub one_reading_is : OneReading
one_reading_is text is js a b x y = same_items is js a.in_range b.in_range a.names b.names (one_text text is js a.in_range b.in_range x y)

same_evidence : (s : EvidenceState) (is js : List Item) → AllByRecursion IsItem is → AllByRecursion IsItem js → items_text is ≡ items_text js → fold with_item s is ≡ fold with_item s js
same_evidence s [] [] a b e = refl
same_evidence s [] (j ∷ js) a b e = absurd (no_nothing (line_of j) (items_text js) (e ∙ text_of j js))
same_evidence s (i ∷ is) [] a b e = absurd (no_nothing (line_of i) (items_text is) (sym e ∙ text_of i is))
same_evidence s (i ∷ is) (j ∷ js) a b e =
    let parts = cut_items i j (items_text is) (items_text js) a.0 b.0 (sym (text_of i is) ∙ e ∙ text_of j js) in
    ap (λ r. fold with_item r is) (same_with s i j a.0 b.0 parts.0) ∙ same_evidence (with_item s j) is js a.1 b.1 parts.1

one_evidence_behind : (v : Version) (text : List ℕ) (s t : EvidenceState) → IsTold v text s → IsTold v text t → s ≡ t
one_evidence_behind v text s t a b =
    a.evidence
    ∙ same_evidence (no_evidence v) a.items b.items a.good.in_range b.good.in_range (one_text text a.items b.items a.good.in_range b.good.in_range a.lines b.lines)
    ∙ sym b.evidence

pub one_evidence_is : OneEvidence
one_evidence_is text v w s t a b =
    let head = one_head text v w a.0 b.0 a.1 b.1 in
    (head.0, one_evidence_behind v a.0 s t a.2 (subst (λ c. IsTold v c t) (sym head.1) (subst (λ u. IsTold u b.0 t) (sym head.0) b.2)))

-- lines that are good one behind another
abbrev AreGoodBehind : Version → EvidenceState → List Item → Type 0
AreGoodBehind v s [] = Unit {0}
AreGoodBehind v s (i ∷ is) = IsItem i × ((IsLineIn v i × (IsBadItem s i → ⊥)) × AreGoodBehind v (with_item s i) is)

good_behind : (v : Version) (s : EvidenceState) (is : List Item) → AllByRecursion IsItem is → AllByRecursion (IsLineIn v) is → EverySplit (λ front i back. ¬ (IsBadItem (fold with_item s front) i)) is → AreGoodBehind v s is
good_behind v s [] range of none = tt
good_behind v s (i ∷ is) range of none = (
  range.0,
  (
    (of.0, splits-head (λ front i back. ¬ (IsBadItem (fold with_item s front) i)) i is none),
    good_behind v (with_item s i) is range.1 of.1 (splits-tail (λ front i back. ¬ (IsBadItem (fold with_item s front) i)) i is none),
  ),
)

all_good : (v : Version) (items : List Item) → AreGood v items → AreGoodBehind v (no_evidence v) items
all_good v items good = good_behind v (no_evidence v) items good.in_range good.of_version good.none_bad

-- the fault of a line

same_plan_fault : (p : Plan) (f g : Fault) → IsPlanFault p f → IsPlanFault p g → f ≡ g
same_plan_fault Unknown f g a b = a ∙ sym b
same_plan_fault Missing f g a b = a ∙ sym b
same_plan_fault (Forms ms ws) f g (inl a) (inl b) = a.1 ∙ sym b.1
same_plan_fault (Forms ms ws) f g (inl a) (inr b) = absurd (a.0 b.0)
same_plan_fault (Forms ms ws) f g (inr a) (inl b) = absurd (b.0 a.0)
same_plan_fault (Forms ms ws) f g (inr a) (inr b) = same_bad_word ms ws f g a.1 b.1

same_line_fault : (v : Version) (line : List ℕ) (f g : Fault) → IsLineFault v line f → IsLineFault v line g → f ≡ g
same_line_fault v line f g a b =
    same_plan_fault (plan v a.0) f g a.2 (subst (λ ws. IsPlanFault (plan v ws) g) (same_words line b.0 a.0 b.1 a.1) b.2)

-- a line that spells an item has none
spelt_fits : (v : Version) (line : List ℕ) (i : Item) (f : Fault) → IsItem i → IsLineIn v i → AreWords line (item_words i) → IsLineFault v line f → ⊥
spelt_fits v line i f is of spelt fault = item_fits v i f is of (subst (λ ws. IsPlanFault (plan v ws) f) (same_words line fault.0 (item_words i) fault.1 spelt) fault.2)

same_behind : (v : Version) (s : EvidenceState) (line : List ℕ) (f g : Fault) → f ≢ OutOfMemory → g ≢ OutOfMemory → IsFaultBehind v s line f → IsFaultBehind v s line g → f ≡ g
same_behind v s line f g m n (inl a) b = absurd (m a.0)
same_behind v s line f g m n (inr a) (inl b) = absurd (n b.0)
same_behind v s line f g m n (inr (inl a)) (inr (inl b)) = same_line_fault v line f g a b
same_behind v s line f g m n (inr (inl a)) (inr (inr b)) = absurd (spelt_fits v line b.1.0 f b.1.1 b.1.2 b.1.3 a)
same_behind v s line f g m n (inr (inr a)) (inr (inl b)) = absurd (spelt_fits v line a.1.0 g a.1.1 a.1.2 a.1.3 b)
same_behind v s line f g m n (inr (inr a)) (inr (inr b)) = a.0 ∙ sym b.0

-- a good line has none but want of memory
good_line : (v : Version) (s : EvidenceState) (i : Item) (line : List ℕ) (f : Fault) → IsItem i → IsLineIn v i × (IsBadItem s i → ⊥) → line ≡ line_of i → IsFaultBehind v s line f → f ≡ OutOfMemory
good_line v s i line f is fine e (inl a) = a.0
good_line v s i line f is fine e (inr (inl a)) = absurd (spelt_fits v line i f is fine.0 (subst (λ l. AreWords l (item_words i)) (sym e) (item_are_words i is)) a)
good_line v s i line f is fine e (inr (inr a)) =
    let bad = a.1 in
    absurd (fine.1 (same_bad s bad.0 i bad.1 is (sym bad.3.whole ∙ e) bad.4))

-- the faulty line of a text stands at one place
module _ (v : Version) (f g : Fault) (m : f ≢ OutOfMemory) (n : g ≢ OutOfMemory) where
  one_place : (s : EvidenceState) (is js : List Item) (p q l r k t : List ℕ) → AreGoodBehind v s is → AreGoodBehind v s js → items_text is ++ p ≡ items_text js ++ q
      → IsFirstLine p l r → IsFirstLine q k t → IsFaultBehind v (fold with_item s is) l f → IsFaultBehind v (fold with_item s js) k g → (f ≡ g) × (length is ≡ length js)
  one_place s [] [] p q l r k t a b e first other x y =
      let line : k ≡ l = (same_lines q k t l r other (subst (λ u. IsFirstLine u l r) e first)).0 in
      (same_behind v s l f g m n x (subst (λ u. IsFaultBehind v s u g) line y), refl)
  one_place s [] (j ∷ js) p q l r k t a b e first other x y =
      absurd (m (good_line v s j l f b.0 b.1.0 (first_line_is (line_of j) (items_text js ++ q) p l r (line_lacks j b.0) (inl (e ∙ text_before j js q)) first) x))
  one_place s (i ∷ is) [] p q l r k t a b e first other x y =
      absurd (n (good_line v s i k g a.0 a.1.0 (first_line_is (line_of i) (items_text is ++ p) q k t (line_lacks i a.0) (inl (sym e ∙ text_before i is p)) other) y))
  one_place s (i ∷ is) (j ∷ js) p q l r k t a b e first other x y =
      let parts = cut_items i j (items_text is ++ p) (items_text js ++ q) a.0 b.0 (sym (text_before i is p) ∙ e ∙ text_before j js q) in
      let same : with_item s j ≡ with_item s i = sym (same_with s i j a.0 b.0 parts.0) in
      let rest = one_place (with_item s i) is js p q l r k t a.1.1 (subst (λ u. AreGoodBehind v u js) same b.1.1) parts.1 first other x
      (subst (λ u. IsFaultBehind v (fold with_item u js) k g) same y) in
      (rest.0, ap suc rest.1)

one_fault_behind : (v : Version) (text : List ℕ) (f g : ScriptFault) → f.fault ≢ OutOfMemory → g.fault ≢ OutOfMemory → IsTextFault v text f → IsTextFault v text g → f ≡ g
one_fault_behind v text f g m n a b =
    let place = one_place v f.fault g.fault m n (no_evidence v) a.items b.items a.left b.left a.line a.rest b.line b.rest
    (all_good v a.items a.good) (all_good v b.items b.good) (sym a.whole ∙ b.whole) a.first b.first a.fault b.fault in
    let number : f.line ≡ g.line = a.number ∙ ap (λ k. k + 1) place.1 ∙ sym b.number in
    (λ i. record { fault = place.0 i; line = number i })

-- and no line of a text that tells something is faulty
nothing_left : (p : List ℕ) → p ≢ [] → (p ≡ []) ⊎ (p ++ 10 ∷ [] ≡ []) → ⊥
nothing_left p some (inl e) = some e
nothing_left [] some (inr e) = cc
nothing_left (x ∷ p) some (inr e) = cc

lines_on : (i : Item) (is : List Item) (p q : List ℕ) → (items_text (i ∷ is) ++ p ≡ q) ⊎ ((items_text (i ∷ is) ++ p) ++ 10 ∷ [] ≡ q)
    → (line_of i ++ 10 ∷ (items_text is ++ p) ≡ q) ⊎ (line_of i ++ 10 ∷ ((items_text is ++ p) ++ 10 ∷ []) ≡ q)
lines_on i is p q (inl e) = inl (sym (text_before i is p) ∙ e)
lines_on i is p q (inr e) = inr (sym (append_assoc (line_of i) (10 ∷ (items_text is ++ p)) (10 ∷ [])) ∙ ap (λ t. t ++ 10 ∷ []) (sym (text_before i is p)) ∙ e)

cut_first : (i j : Item) (is js : List Item) (p : List ℕ) → IsItem i → IsItem j
    → (items_text (i ∷ is) ++ p ≡ items_text (j ∷ js)) ⊎ ((items_text (i ∷ is) ++ p) ++ 10 ∷ [] ≡ items_text (j ∷ js))
    → (line_of i ≡ line_of j) × ((items_text is ++ p ≡ items_text js) ⊎ ((items_text is ++ p) ++ 10 ∷ [] ≡ items_text js))
cut_first i j is js p a b e = elim (lines_on i is p (items_text (j ∷ js)) e) [
  | inl h ↦ (let parts = cut_items i j (items_text is ++ p) (items_text js) a b (h ∙ text_of j js) in (parts.0, inl parts.1))
  | inr h ↦ (let parts = cut_items i j ((items_text is ++ p) ++ 10 ∷ []) (items_text js) a b (h ∙ text_of j js) in (parts.0, inr parts.1))
]

no_fault : (v : Version) (f : Fault) (s : EvidenceState) (is js : List Item) (p l r : List ℕ) → AreGoodBehind v s is → AreGoodBehind v s js
    → (items_text is ++ p ≡ items_text js) ⊎ ((items_text is ++ p) ++ 10 ∷ [] ≡ items_text js) → p ≢ [] → IsFirstLine p l r → IsFaultBehind v (fold with_item s is) l f
    → f ≡ OutOfMemory
no_fault v f s [] [] p l r a b e some first x = absurd (nothing_left p some e)
no_fault v f s [] (j ∷ js) p l r a b (inl e) some first x =
    good_line v s j l f b.0 b.1.0 (first_line_is (line_of j) (items_text js) p l r (line_lacks j b.0) (inl (e ∙ text_of j js)) first) x
no_fault v f s [] (j ∷ js) p l r a b (inr e) some first x =
    good_line v s j l f b.0 b.1.0 (first_line_is (line_of j) (items_text js) p l r (line_lacks j b.0) (inr (e ∙ text_of j js)) first) x
no_fault v f s (i ∷ is) [] p l r a b e some first x = elim (lines_on i is p [] e) [
  | inl h ↦ absurd (no_nothing (line_of i) (items_text is ++ p) (sym h))
  | inr h ↦ absurd (no_nothing (line_of i) ((items_text is ++ p) ++ 10 ∷ []) (sym h))
]
no_fault v f s (i ∷ is) (j ∷ js) p l r a b e some first x =
    let behind = cut_first i j is js p a.0 b.0 e in
    no_fault v f (with_item s i) is js p l r a.1.1 (subst (λ u. AreGoodBehind v u js) (sym (same_with s i j a.0 b.0 behind.0)) b.1.1) behind.1 some first x

no_told_behind : (v : Version) (text : List ℕ) (s : EvidenceState) (f : ScriptFault) → IsTold v text s → IsTextFault v text f → f.fault ≡ OutOfMemory
no_told_behind v text s f told bad =
    no_fault v f.fault (no_evidence v) bad.items told.items bad.left bad.line bad.rest (all_good v bad.items bad.good) (all_good v told.items told.good)
    (elim told.lines [
      | inl e ↦ inl (sym bad.whole ∙ e)
      | inr e ↦ inr (ap (λ t. t ++ 10 ∷ []) (sym bad.whole) ∙ e)
    ]) bad.there bad.first bad.fault

-- the head of a text that has one is not faulty
good_head : (text behind : List ℕ) (v : Version) (f : ScriptFault) → IsBehindHead v text behind → IsHeadFault text f → ⊥
good_head text behind One f is bad = no_bad_first bad.line f.fault (is.0 bad.line bad.rest bad.is_first) bad.fault
good_head text behind Two f is bad = no_bad_head bad.line f.fault (same_lines text bad.line bad.rest head_line behind bad.is_first is).0 bad.fault

pub no_told_is_faulty_is : NoToldIsFaulty
no_told_is_faulty_is text v s f told (inl bad) = absurd (good_head text told.0 v f told.1 bad)
no_told_is_faulty_is text v s f told (inr bad) =
    let head = one_head text v bad.0 told.0 bad.1 told.1 bad.3 in
    ap (λ (g : ScriptFault). g.fault) bad.5
    ∙ no_told_behind v told.0 s bad.2 told.2 (subst (λ b. IsTextFault v b bad.2) (sym head.1) (subst (λ u. IsTextFault u bad.1 bad.2) (sym head.0) bad.4))

both_heads : (text : List ℕ) (f g : ScriptFault) → IsHeadFault text f → IsHeadFault text g → f ≡ g
both_heads text f g a b =
    let line = (same_lines text b.line b.rest a.line a.rest b.is_first a.is_first).0 in
    let words = same_words a.line a.fault.0 b.fault.0 a.fault.1 (subst (λ l. AreWords l b.fault.0) line b.fault.1) in
    let fault = no_version_once a.fault.0 f.fault g.fault a.fault.2 (subst (λ ws. TellNoVersion ws g.fault) (sym words) b.fault.2) in
    let number = a.number ∙ sym b.number in
    (λ i. record { fault = fault i; line = number i })

both_behind : (text : List ℕ) (f g : ScriptFault) → f.fault ≢ OutOfMemory → g.fault ≢ OutOfMemory → BehindHead IsTextFault text f → BehindHead IsTextFault text g → f ≡ g
both_behind text f g m n a b =
    let head = one_head text b.0 a.0 b.1 a.1 b.3 a.3 in
    let other = subst (λ c. IsTextFault a.0 c b.2) head.1 (subst (λ u. IsTextFault u b.1 b.2) head.0 b.4) in
    let same = one_fault_behind a.0 a.1 a.2 b.2 (λ e. m (ap (λ (h : ScriptFault). h.fault) a.5 ∙ e)) (λ e. n (ap (λ (h : ScriptFault). h.fault) b.5 ∙ e)) a.4 other in
    a.5 ∙ (λ i. in_whole (sym head.0 i) (same i)) ∙ sym b.5

pub one_fault_is : OneFault
one_fault_is text f g m n (inl a) (inl b) = both_heads text f g a b
one_fault_is text f g m n (inl a) (inr b) = absurd (good_head text b.1 b.0 f b.3 a)
one_fault_is text f g m n (inr a) (inl b) = absurd (good_head text a.1 a.0 g a.3 b)
one_fault_is text f g m n (inr a) (inr b) = both_behind text f g m n a b
