use Rattle.std.proofs.Common.{[], ◌∷◌, ◌++◌, map, subst}
use Rattle.std.specs.Option.{option_copied}
use Rattle.rambo_names.specs.Signs.{conf_text}
use Rattle.rambo_text.specs.Forms.{Conf}
use Rattle.rambo_text.specs.Words.{AreMore}
use Rattle.rambo_check.proofs.Rows.{row_end, row_on, row_fault, confs_spelt, confs_on}
use Rattle.rambo_check.proofs.operands.read_confs.Goals as goal

pub returns-in_default-read_conf-clause-fault : goal.returns-in_default-read_conf-clause-fault
returns-in_default-read_conf-clause-fault c =
    row_fault Conf (map conf_text c.loop-more.invariant.0) (option_copied c.args.more) c.loop-more.more c.in-Some.rest c.next_word.result.0.now
    (option_copied c.next_word.result.1) c.in-Some.is c.next_word.ensures (confs_spelt c.loop-more.invariant.0)
    (λ s. c.in_default-read_conf.ensures.none s.0 s.1) c.loop-more.invariant.1

pub loop-more-preserved : goal.loop-more-preserved
loop-more-preserved c =
    let s = c.in-Some-read_conf._conf in
    let confs = c.loop-more.invariant.0 in (
      confs ++ s ∷ [],
      λ ws all.
          subst (AreMore (option_copied c.args.more)) (confs_on confs s ws)
          (row_on (map conf_text confs) (option_copied c.args.more) c.loop-more.more c.in-Some.rest c.next_word.result.0.now (conf_text s) (option_copied c.next_word.result.1)
          c.in-Some.is c.next_word.ensures c.in-Some-read_conf.ensures.found c.loop-more.invariant.1 ws all),
    )

pub returns-clause-confs : goal.returns-clause-confs
returns-clause-confs c =
    (c.loop-more.invariant.0, row_end (map conf_text c.loop-more.invariant.0) (option_copied c.args.more) c.loop-more.more c.in_default.is c.loop-more.invariant.1)
