use Rattle.std.proofs.Common.{◌∷◌, codes, map, inl, inr, refl, sym, ◌<◌, ◌^◌, arith}
use Rattle.std.specs.Option.{option_copied}
use Rattle.rambo_names.specs.Signs.{conf_text}
use Rattle.std.proofs.lemmas.Result.{on_ok_weaker, IfErr-weaker}
use Rattle.rambo_text.specs.Forms.{Conf}
use Rattle.rambo_check.specs.Lines.{Mapped}
use Rattle.rambo_text.proofs.WordsThere.{more_has_words}
use Rattle.rambo_check.proofs.LineFaults.{map_short, map_bad, row_bad, some_confs, no_confs}
use Rattle.rambo_check.proofs.item.read_map.Goals as goal

pub returns-then-is_none-clause-fault : goal.returns-then-is_none-clause-fault
returns-then-is_none-clause-fault c =
    map_short (option_copied c.args.more) c.in-Some.more c.in-Some.name.now c.in-Some.floor.now c.if-is_none.ensures c.in-Some.ensures.found

pub returns-in_default-read_name-clause-fault : goal.returns-in_default-read_name-clause-fault
returns-in_default-read_name-clause-fault c =
    let all = more_has_words (option_copied c.in-Some.more) in
    map_bad (option_copied c.args.more) c.in-Some.more c.in-Some.name.now c.in-Some.floor.now all.0 _ c.if-is_none.ensures all.1 (c.in-Some.ensures.found all.0 all.1)
    (inl ((λ s. c.in_default-read_name.ensures.none s.0 s.1 s.2), refl))

pub returns-in_default-read_num-clause-fault : goal.returns-in_default-read_num-clause-fault
returns-in_default-read_num-clause-fault c =
    let all = more_has_words (option_copied c.in-Some.more) in
    let name = c.in-Some-read_name.ensures.found in
    map_bad (option_copied c.args.more) c.in-Some.more c.in-Some.name.now c.in-Some.floor.now all.0 _ c.if-is_none.ensures all.1 (c.in-Some.ensures.found all.0 all.1)
    (inr ((c.in-Some-read_name._name, name.0, name.1), inl ((λ s. c.in_default-read_num.ensures.none s.0 s.1 s.2), refl)))

pub returns-clause-spelt : goal.returns-clause-spelt
returns-clause-spelt c =
    let name = c.in-Some-read_name.ensures.found in
    let first = sym name.1 in
    let second = sym c.in-Some-read_num.ensures.found in
    let small : c.in-Some-read_num._floor < 2 ^ 64 = omega arith in
    on_ok_weaker c.read_confs.result
    (λ s. (
      Mapped c.in-Some-read_name._name c.in-Some-read_num._floor s.0,
      tt,
      (
        (name.0, small, no_confs s.0 (some_confs c.in-Some.more (map conf_text s.0) c.if-is_none.ensures s.1)),
        c.in-Some.name.now ∷ c.in-Some.floor.now ∷ map conf_text s.0,
        c.in-Some.ensures.found (map conf_text s.0) s.1,
        λ i. codes "map" ∷ first i ∷ second i ∷ map conf_text s.0,
      ),
    ))
    c.read_confs.ensures.confs

pub returns-clause-fault : goal.returns-clause-fault
returns-clause-fault c =
    let name = c.in-Some-read_name.ensures.found in
    let small : c.in-Some-read_num._floor < 2 ^ 64 = omega arith in
    IfErr-weaker c.read_confs.result _ _
    (λ f h.
    let b = row_bad Conf (option_copied c.in-Some.more) f h (λ e. cc) in
    map_bad (option_copied c.args.more) c.in-Some.more c.in-Some.name.now c.in-Some.floor.now b.0 f c.if-is_none.ensures b.1 (c.in-Some.ensures.found b.0 b.1)
    (inr ((c.in-Some-read_name._name, name.0, name.1), inr ((c.in-Some-read_num._floor, small, c.in-Some-read_num.ensures.found), b.2))))
    c.read_confs.ensures.fault
