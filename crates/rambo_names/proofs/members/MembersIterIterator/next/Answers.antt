use Rattle.std.proofs.Common.{◌≡◌, ap, sym, ◌∙◌, arith, [], ◌∷◌, ◌+◌, ◌*◌, ◌%◌, ◌^◌, bit_and, w64, length}
use mir.Val.{bits}
use Rattle.std.specs.Int.{trailing_zeros, bit_not}
use Rattle.std.proofs.lemmas.Nat.Bits.{bit_at-trailing_zeros, bit_at_clear_same, bit_at_clear_other}
use Rattle.rambo_names.specs.Masks.{names_from}
use Rattle.rambo_names.proofs.MaskNames.{names_from-zero, names_from-first}
use Rattle.rambo_names.proofs.members.MembersIterIterator.next.Goals as goal

pub returns-then-self-eq0-clause-steps : goal.returns-then-self-eq0-clause-steps
returns-then-self-eq0-clause-steps c =
    let none : c.args.self.now ≡ [] = sym c.self.view_is ∙ ap (names_from 64 1) c.if-self-eq0.true ∙ names_from-zero 64 1 in
    (none, none)

pub returns-clause-steps : goal.returns-clause-steps
returns-clause-steps c =
    let low = bit_at-trailing_zeros w64 c.self.inside.bits (omega arith) c.self.invariant in
    let place : 1 + trailing_zeros w64 c.self.inside.bits ≡ c.at.result = omega (arith, c.at.ensures) in
    sym c.self.view_is
    ∙ names_from-first 64 1 _ _ _ low.0 low.1 low.2 (bit_at_clear_same w64 _ _ low.0) (λ i h ne. bit_at_clear_other w64 _ _ low.0 i h ne)
    ∙ (λ i. place i ∷ names_from 64 1 (bit_and c.self.inside.bits (bit_not w64 (1 * 2 ^ trailing_zeros w64 c.self.inside.bits % 2 ^ bits w64))))

pub returns-clause-goes : goal.returns-clause-goes
returns-clause-goes c =
    let fewer = ap length (returns-clause-steps c) in
    record { on = λ _. (tt, tt, omega (arith, fewer)); keeps = tt; rests = λ _. tt }
