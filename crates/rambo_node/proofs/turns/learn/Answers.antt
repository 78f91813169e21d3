use Rattle.std.proofs.Common.{◌≡◌, ◌<◌, ◌-◌, ◌^◌, if◌then◌else◌, length, Ok, Err, nat_le, ap, ◌∙◌, arith}
use Rattle.std.specs.Result.{is_err}
use Rattle.std.proofs.lemmas.Bool.{lt-leb, true≢false}
use Rattle.rambo_names.specs.declared.refusal.Refusal.TheVariants as refusal
use Rattle.rambo_config_map.specs.Maps.{end_of, top_of, learn_answer}
use Rattle.rambo_config_map.specs.MapLaws.{top_below}
use Rattle.rambo_node.proofs.turns.learn.Goals as goal

pub learn-requires : goal.learn-requires
learn-requires g c = assumption

pub unreachable-requires : goal.unreachable-requires
unreachable-requires g c =
    let m = c.args.map.now in
    let few : length m.configs < 8 = omega (arith, c.requires.room) in
    let near : top_of m < 2 ^ 64 - 1 = omega (arith, c.requires.next, top_below m) in
    let room : learn_answer m ≡ (if nat_le (2 ^ 64 - 1) (top_of m) then Err refusal.NumbersSpent else Ok (end_of m)) = ap (λ t. if t then Err refusal.TooManyActive else (if nat_le (2 ^ 64 - 1) (top_of m) then Err refusal.NumbersSpent else Ok (end_of m))) (lt-leb 8 (length m.configs) few) in
    let answer = room ∙ ap (λ t. if t then Err refusal.NumbersSpent else Ok (end_of m)) (lt-leb (2 ^ 64 - 1) (top_of m) near) in
    true≢false (c.if-is_err.ensures.value ∙ ap is_err (c.learn.ensures.answer ∙ answer))

pub unreachable-unreachable : goal.unreachable-unreachable
unreachable-unreachable g c = c.unreachable.result
