use Rattle.std.proofs.Common.{not, ◌&&◌, refl, ap, ◌∙◌, eq-eqb}
use Rattle.std.specs.Cmp.{nat_cmp_total, unsigned_tied}
use Rattle.std.specs.FinSet.{contains, contains-remove}
use Rattle.rambo_post.proofs.post.Post.wanted.Goals as goal

pub returns : goal.returns
returns g c =
    let all = c.all_wanted.result in
    let name = c.args.name in
    ap (λ s. contains s name) c.without.ensures ∙ contains-remove nat_cmp_total all name name ∙ ap (λ t. not t && contains all name) (unsigned_tied name name ∙ eq-eqb name name refl)

pub all_wanted-requires : goal.all_wanted-requires
all_wanted-requires g c = assumption
