use Rattle.std.proofs.Common.{◌++◌, take, drop, subst, sym, ap, ◌∙◌, take-append-drop, arith}
use Rattle.rambo_names.specs.Signs.{IsNumberEnd, starts_plainly}
use Rattle.rambo_names.proofs.Numerals.{is_numeral}
use Rattle.rambo_names.proofs.Leading.{not_plain}
use Rattle.rambo_names.proofs.signs.ended.Goals as goal

pub returns-then-starts_plainly-clause-found : goal.returns-then-starts_plainly-clause-found
returns-then-starts_plainly-clause-found c =
    let line = c.args.line.now in
    let front = take c.args.end line in
    let plain = ap starts_plainly (sym c.split_at.ensures.front) ∙ sym c.starts_plainly.ensures ∙ c.if-starts_plainly.true in
    let numeral = is_numeral front c.args.number plain c.requires.digits c.requires.value (omega arith) in
    (omega arith, record { whole = sym (take-append-drop c.args.end line) ∙ (λ i. numeral i ++ sym c.split_at.ensures.back i); ends = subst IsNumberEnd (sym c.split_at.ensures.back) c.requires.behind })

pub returns-else-starts_plainly-clause-none : goal.returns-else-starts_plainly-clause-none
returns-else-starts_plainly-clause-none c n rest h begins =
    let line = c.args.line.now in
    let odd = ap starts_plainly (sym c.split_at.ensures.front) ∙ sym c.starts_plainly.ensures ∙ c.if-starts_plainly.false in
    not_plain n line rest (take c.args.end line) (drop c.args.end line) h begins.ends begins.whole c.requires.digits c.requires.behind (sym (take-append-drop c.args.end line)) odd
