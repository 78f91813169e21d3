use Rattle.std.proofs.Common.{None, if◌then◌else◌, length, slice_get, refl, sym, ap, ◌∙◌}
use Rattle.std.specs.Option.{option_map}
use Rattle.std.proofs.lemmas.Option.{slice_get_read, slice_get_past}
use Rattle.rambo_gossip.specs.Letters.{kind_of}
use Rattle.rambo_letters.specs.Shared.{gossip_with}
use Rattle.rambo_letters.proofs.Sharing.{told, not_told}
use Rattle.rambo_letters.proofs.letters.read_gossip.Goals as goal

pub returns-then-not-sent : goal.returns-then-not-sent
returns-then-not-sent g c =
    let s = c.args.sent in
    sym (ap (λ t. kind_of (if t then option_map (gossip_with s) (slice_get c.args.standings.now s.standing) else None)) (not_told s.gossips c.if-not-sent.true))

pub returns-in-Some : goal.returns-in-Some
returns-in-Some g c =
    let s = c.args.sent in
    let ts = c.args.standings.now in
    let found = c.in-Some.ensures.lookup in
    sym (ap (λ t. kind_of (if t then option_map (gossip_with s) (slice_get ts s.standing) else None)) (told s.gossips c.if-not-sent.false)
    ∙ ap (λ o. kind_of (option_map (gossip_with s) o)) (slice_get_read ts (length ts) s.standing c.in-Some.standing.now refl found.3.0 found.1))

pub returns-in-None : goal.returns-in-None
returns-in-None g c =
    let s = c.args.sent in
    let ts = c.args.standings.now in
    let past = c.in-None.ensures.lookup in
    sym (ap (λ t. kind_of (if t then option_map (gossip_with s) (slice_get ts s.standing) else None)) (told s.gossips c.if-not-sent.false)
    ∙ ap (λ o. kind_of (option_map (gossip_with s) o)) (slice_get_past ts s.standing past.3))
