-- What a node makes of a part of another's log
use Rattle.std.proofs.Common.{◌≡◌, ℕ, ◌≤◌, max, List, take, drop, sym, ap, ◌∙◌, ◌⊎◌, inl, inr, arith}
use Rattle.std.proofs.lemmas.Bool.Decides.{leb_tells}
use Rattle.std.proofs.lemmas.List.{take-take}
use Rattle.std.proofs.Math.Nat.{max-eq_left, max-eq_right}
use Rattle.rambo_tag.specs.declared.keyed_version.KeyedVersion.{KeyedVersion}
use Rattle.rambo_tag.specs.Copies.{Copies, joined}
use Rattle.rambo_tag.specs.Logs.{greatest_of}
use Rattle.rambo_tag.proofs.Joins.{joined-assoc, joined-comm, joined-idem, joined-again}
use Rattle.rambo_tag.proofs.Logged.{greatest_of-split}

-- the order of two merges doesn't matter
pub joined-swap : (a b c : Copies) → joined (joined a b) c ≡ joined (joined a c) b
joined-swap a b c = joined-assoc a b c ∙ ap (joined a) (joined-comm b c) ∙ sym (joined-assoc a c b)

le_or_ge : (m n : ℕ) → (m ≤ n) ⊎ (n ≤ m)
le_or_ge m n = elim (leb_tells m n) [
  | inl h ↦ inl h.1
  | inr h ↦ inr (omega (arith, h.1))
]

-- the beginning of a log, in two parts
parts : (m n : ℕ) (log : List KeyedVersion) → m ≤ n → joined (greatest_of (take m log)) (greatest_of (drop m (take n log))) ≡ greatest_of (take n log)
parts m n log order =
    ap (λ l. joined (greatest_of l) (greatest_of (drop m (take n log)))) (sym (take-take m n log order)) ∙ greatest_of-split m (take n log)

-- what is new of a log's beginning, over what was merged
merge_new : (r : Copies) (m n : ℕ) (log : List KeyedVersion) → m ≤ n → joined r (greatest_of (take m log)) ≡ r
    → joined r (greatest_of (drop m (take n log))) ≡ joined r (greatest_of (take n log))
merge_new r m n log order holds =
    ap (λ a. joined a (greatest_of (drop m (take n log)))) (sym holds)
    ∙ joined-assoc r (greatest_of (take m log)) (greatest_of (drop m (take n log)))
    ∙ ap (joined r) (parts m n log order)

-- what was merged has merged each shorter beginning
merge_old : (r : Copies) (n m : ℕ) (log : List KeyedVersion) → n ≤ m → joined r (greatest_of (take m log)) ≡ r → joined r (greatest_of (take n log)) ≡ r
merge_old r n m log order holds =
    let a = greatest_of (take n log) in
    let p = greatest_of (drop n (take m log)) in
    let split = parts n m log order in
    ap (λ b. joined b a) (sym holds ∙ ap (joined r) (sym split))
    ∙ joined-assoc r (joined a p) a
    ∙ ap (joined r) (joined-swap a p a ∙ ap (λ b. joined b p) (joined-idem a) ∙ split)
    ∙ holds

-- what is new, of a letter that tells of n copies, where m were merged
pub merge_told : (r : Copies) (m n : ℕ) (log : List KeyedVersion) → joined r (greatest_of (take m log)) ≡ r
    → joined r (greatest_of (drop m (take (max m n) log))) ≡ joined r (greatest_of (take n log))
merge_told r m n log holds =
    elim (le_or_ge m n) [
      | inl below ↦ ap (λ k. joined r (greatest_of (drop m (take k log)))) (max-eq_right below) ∙ merge_new r m n log below holds
      | inr above ↦ ap (λ k. joined r (greatest_of (drop m (take k log)))) (max-eq_left above) ∙ merge_new r m m log (omega arith) holds ∙ holds ∙ sym (merge_old r n m log above holds)
    ]

-- and then all of them are merged
pub merged_told : (r : Copies) (m n : ℕ) (log : List KeyedVersion) → joined r (greatest_of (take m log)) ≡ r
    → joined (joined r (greatest_of (take n log))) (greatest_of (take (max m n) log)) ≡ joined r (greatest_of (take n log))
merged_told r m n log holds =
    let a = greatest_of (take n log) in
    elim (le_or_ge m n) [
      | inl below ↦ ap (λ k. joined (joined r a) (greatest_of (take k log))) (max-eq_right below) ∙ joined-again r a
      | inr above ↦ ap (λ k. joined (joined r a) (greatest_of (take k log))) (max-eq_left above) ∙ joined-swap r a (greatest_of (take m log)) ∙ ap (λ b. joined b a) holds
    ]
