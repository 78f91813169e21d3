use Rattle.rambo_cluster.proofs.endless.end.Goals as goal

pub returns : goal.returns
returns g c = (c.end.result.all, c.into_parts.ensures.legal c.args.founders c.requires, c.end.ensures.once, c.into_parts.ensures.written c.args.founders c.requires)
