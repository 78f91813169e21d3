use Rattle.std.proofs.Common.{◌≡◌, ℕ, ◌+◌, ◌-◌, ◌≤◌, List, ◌∷◌, ◌++◌, length, get_or, take, drop, IfNone, Some, None, sym, ap, ◌∙◌, arith, rules, append_assoc, length-append, length-take, length-drop, take-append-drop}
use Rattle.std.proofs.Math.Seq.{drop-cons}
use Rattle.std.proofs.lemmas.List.{drop_at, take_rest}
use Rattle.rambo_resp.specs.Spellings.{line_end, number_line, item_spelling}
use Rattle.rambo_resp.proofs.Items.{same_item}
use Rattle.rambo_resp.proofs.front.whole_item.Goals.{in_default-via-then-end-lt2, in_default-via-else-end-lt2+in-13+in_default-1, in_default-via-else-end-lt2+in_default-1}
use Rattle.rambo_resp.proofs.front.whole_item.Goals as goal

pub returns-in_err-item-clause-none : goal.returns-in_err-item-clause-none
returns-in_err-item-clause-none c =
    let bytes = c.args.bytes.now in
    elim c.from_residual-in_err-item.result as (λ r. IfNone r ((item : List ℕ) (rest : List ℕ) → length item ≤ 99 → bytes ≡ item_spelling item ++ rest → ⊥)) [
      | Some r ↦ search rules
      | None ↦ λ item rest short is.
          (let same = same_item c.in_ok-count.count c.in_ok-count.behind.now item rest c.in_ok-count.ensures.few short (sym c.in_ok-count.ensures.spelled ∙ is) in
          let long : length c.in_ok-count.behind.now ≡ length item + length (13 ∷ 10 ∷ rest) = ap length same.1 ∙ length-append item (13 ∷ 10 ∷ rest) in
          omega (arith, long, same.0, c.in_err-item.ensures.cases))
    ]

pub returns-in_default-clause-none : goal.returns-in_default-clause-none
returns-in_default-clause-none c = λ item rest short is.
    let same = same_item c.in_ok-count.count c.in_ok-count.behind.now item rest c.in_ok-count.ensures.few short (sym c.in_ok-count.ensures.spelled ∙ is) in
    let end = c.in_ok-item.end.now in
    let split : end ≡ 13 ∷ 10 ∷ rest =
    c.in_ok-item.ensures.cases.2 ∙ ap (drop c.in_ok-count.count) same.1 ∙ drop_at item (13 ∷ 10 ∷ rest) c.in_ok-count.count (sym same.0) in
    let return : get_or end 0 0 ≡ 13 = ap (λ b. get_or b 0 0) split in
    let feed : get_or end 1 0 ≡ 10 = ap (λ b. get_or b 1 0) split in
    let long : 2 ≤ length end = omega (arith, ap length split) in
    elim c.in_default.branch [
      | in_default-via-then-end-lt2 w ↦ search rules
      | in_default-via-else-end-lt2+in-13+in_default-1 w ↦ search rules
      | in_default-via-else-end-lt2+in_default-1 w ↦ search rules
    ]

-- two bytes end an item
ended : (end : List ℕ) → 2 ≤ length end → get_or end 0 0 ≡ 13 → get_or end 1 0 ≡ 10 → end ≡ 13 ∷ 10 ∷ take (length end - 2) (drop 2 end)
ended end long return feed =
    drop-cons end 0 0 (omega (arith, long))
    ∙ (λ i. return i ∷ (drop-cons end 1 0 (omega (arith, long)) ∙ (λ j. feed j ∷ sym (take_rest end 2) j)) i)

length_on : (behind item : List ℕ) (count : ℕ) → count ≤ length behind → item ≡ take count behind → length item ≡ count
length_on behind item count h is = omega (arith, h, ap length is, length-take count behind)

item_on : (bytes behind item end rest : List ℕ) (count : ℕ) → bytes ≡ number_line 36 count ++ behind → count ≤ length behind → item ≡ take count behind → end ≡ drop count behind
    → end ≡ 13 ∷ 10 ∷ rest → bytes ≡ item_spelling item ++ rest
item_on bytes behind item end rest count spelled h is left ends =
    let whole : behind ≡ item ++ 13 ∷ 10 ∷ rest = sym (take-append-drop count behind) ∙ (λ i. sym is i ++ (sym left ∙ ends) i) in
    let front = number_line 36 (length item) in
    spelled ∙ (λ i. number_line 36 (sym (length_on behind item count h is) i) ++ whole i)
    ∙ ap (λ t. front ++ t) (sym (append_assoc item line_end rest)) ∙ sym (append_assoc front (item ++ line_end) rest)

pub returns-in-13-clause-spelled : goal.returns-in-13-clause-spelled
returns-in-13-clause-spelled c =
    let cases = c.in_ok-item.ensures.cases in
    item_on c.args.bytes.now c.in_ok-count.behind.now c.in_ok-item.item.now c.in_ok-item.end.now _ c.in_ok-count.count c.in_ok-count.ensures.spelled cases.0 cases.1 cases.2
    (ended c.in_ok-item.end.now c.in-13.len_at_least (search rules) (search rules))

pub returns-in-13-clause-few : goal.returns-in-13-clause-few
returns-in-13-clause-few c =
    let cases = c.in_ok-item.ensures.cases in
    let same = length_on c.in_ok-count.behind.now c.in_ok-item.item.now c.in_ok-count.count cases.0 cases.1 in
    omega (arith, same, c.in_ok-count.ensures.few)

shorter_on : (bytes behind end : List ℕ) (count : ℕ) → length behind + 1 ≤ length bytes → end ≡ drop count behind → length (take (length end - 2) (drop 2 end)) + 1 ≤ length bytes
shorter_on bytes behind end count h left = omega (arith, h, ap length left, length-drop count behind, length-take (length end - 2) (drop 2 end), length-drop 2 end)

pub returns-in-13-clause-shorter : goal.returns-in-13-clause-shorter
returns-in-13-clause-shorter c =
    let less = shorter_on c.args.bytes.now c.in_ok-count.behind.now c.in_ok-item.end.now c.in_ok-count.count (omega (arith, c.in_ok-count.ensures.shorter)) c.in_ok-item.ensures.cases.2 in
    omega (arith, less)
