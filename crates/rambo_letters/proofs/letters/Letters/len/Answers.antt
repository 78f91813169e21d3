use Rattle.std.proofs.Common.{◌∙◌, length, sym, ap}
use Rattle.std.proofs.lemmas.List.{length-map}
use Rattle.rambo_letters.specs.Shared.{sent_in}
use Rattle.rambo_letters.proofs.letters.Letters.len.Goals as goal

pub returns : goal.returns
returns g c =
    let sent = c.self.inside.list in
    c.len.ensures ∙ sent.ok.0 ∙ sym (length-map sent.items (sent_in c.self.inside.standings.items)) ∙ ap length c.self.view_is
