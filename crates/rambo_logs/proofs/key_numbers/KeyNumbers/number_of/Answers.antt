use Rattle.std.proofs.Common.{◌≡◌, ◌+◌, ◌<◌, ◌∷◌, ◌++◌, ◌∙◌, ℕ, List, Some, None, is_some, cond, sym, ap, subst, length, []}
use Rattle.std.specs.Prelude.{slice_index_or}
use Rattle.std.specs.Map.{lookup}
use Rattle.std.specs.Str.{bytes_eq}
use Rattle.rambo_logs.specs.Stored.{AreDistinct}
use Rattle.rambo_logs.specs.Numbers.{by_number, AreNumbers}
use Rattle.rambo_logs.proofs.Numbering.{known_number, found_key, one_number, AreNumbers-put, by_number-put}
use Rattle.rambo_logs.proofs.key_numbers.KeyNumbers.number_of.Goals as goal

pub returns-in-Some-clause-known : goal.returns-in-Some-clause-known
returns-in-Some-clause-known c =
    subst (λ keys. c.in-Some.number.now < length keys) c.self.view_is (known_number c.self.inside.numbers.entries c.self.invariant c.args.key.now c.in-Some.number.now (sym c.in-Some.ensures.value))

pub returns-in-Some-clause-number : goal.returns-in-Some-clause-number
returns-in-Some-clause-number c =
    ap (λ keys. slice_index_or keys c.in-Some.number.now []) (sym c.self.view_is) ∙ found_key c.self.inside.numbers.entries c.self.invariant c.args.key.now c.in-Some.number.now (sym c.in-Some.ensures.value)

pub returns-in-Some-clause-distinct : goal.returns-in-Some-clause-distinct
returns-in-Some-clause-distinct c = subst AreDistinct c.self.view_is (one_number c.self.inside.numbers.entries c.self.invariant)

pub returns-in_err-clone-clause-distinct : goal.returns-in_err-clone-clause-distinct
returns-in_err-clone-clause-distinct c = one_number c.self.inside.numbers.entries c.self.invariant

pub returns-in_err-insert-clause-distinct : goal.returns-in_err-insert-clause-distinct
returns-in_err-insert-clause-distinct c = subst (λ es. AreDistinct (by_number es)) (sym c.in_err-insert.ensures.err) (one_number c.self.inside.numbers.entries c.self.invariant)

-- the key was put with the next number
module _ (c : goal.In_ok-insert) where
  absent : lookup (bytes_eq c.args.key.now) c.self.inside.numbers.entries ≡ None
  absent = sym c.in_default.ensures.value

  copied : c.in_ok-clone.field-0 ≡ c.args.key.now
  copied = c.in_ok-clone.ensures.cases

  count : length c.insert.new.self.entries ≡ length c.self.inside.numbers.entries + 1
  count =
      c.in_ok-insert.ensures.len
      ∙ ap (λ o. length c.self.inside.numbers.entries + cond (is_some o) 0 1) (c.in_ok-insert.ensures.old ∙ ap (λ k. lookup (bytes_eq k) c.self.inside.numbers.entries) copied ∙ absent)

  put : (q : List ℕ) → lookup (bytes_eq q) c.insert.new.self.entries ≡ cond (bytes_eq c.args.key.now q) (Some (length c.self.inside.numbers.entries)) (lookup (bytes_eq q) c.self.inside.numbers.entries)
  put q =
      c.in_ok-insert.ensures.updates.0 q
      ∙ λ i. cond (bytes_eq (copied i) q) (Some (c.len-number.ensures.len i)) (lookup (bytes_eq q) c.self.inside.numbers.entries)

  numbers : AreNumbers c.insert.new.self.entries
  numbers =
      AreNumbers-put c.self.inside.numbers.entries c.insert.new.self.entries c.args.key.now c.self.invariant count absent put c.insert.ensures.unique

  stands : lookup (bytes_eq c.args.key.now) c.insert.new.self.entries ≡ Some c.len-number.result
  stands = ap (λ k. lookup (bytes_eq k) c.insert.new.self.entries) (sym copied) ∙ c.in_ok-insert.ensures.updates.1

  grown : by_number c.insert.new.self.entries ≡ by_number c.self.inside.numbers.entries ++ c.args.key.now ∷ []
  grown = by_number-put c.self.inside.numbers.entries c.insert.new.self.entries c.args.key.now c.self.invariant count absent put c.insert.ensures.unique

pub returns-clause-distinct : goal.returns-clause-distinct
returns-clause-distinct c = one_number c.insert.new.self.entries (numbers c)

pub invariant_of-self-2 : goal.invariant_of-self-2
invariant_of-self-2 = numbers

pub returns-clause-known : goal.returns-clause-known
returns-clause-known c = known_number c.insert.new.self.entries (numbers c) c.args.key.now c.len-number.result (stands c)

pub returns-clause-number : goal.returns-clause-number
returns-clause-number c = found_key c.insert.new.self.entries (numbers c) c.args.key.now c.len-number.result (stands c)

pub returns-clause-grows : goal.returns-clause-grows
returns-clause-grows c = (c.args.key.now ∷ [], grown c ∙ ap (λ keys. keys ++ c.args.key.now ∷ []) c.self.view_is)
