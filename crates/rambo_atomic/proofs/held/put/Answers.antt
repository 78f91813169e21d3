use Rattle.std.proofs.Common.{◌≡◌, Bool, true, false, cond, Option, Some, Bor, refl, ap, ◌∙◌, ℕ, List}
use Rattle.std.specs.Map.{lookup}
use Rattle.std.specs.Option.{option_map}
use Rattle.std.specs.Str.{bytes_eq}
use Rattle.rambo_atomic.proofs.held.put.Goals as goal

either : (t : Bool) (value : Bor (List ℕ)) (o : Option (Bor (List ℕ))) → option_map (λ (v : Bor (List ℕ)). v.now) (cond t (Some value) o) ≡ cond t (Some value.now) (option_map (λ (v : Bor (List ℕ)). v.now) o)
either true value o = refl
either false value o = refl

pub returns-clause-held : goal.returns-clause-held
returns-clause-held c q =
    ap (option_map (λ (v : Bor (List ℕ)). v.now)) (c.in_ok-insert.ensures.updates.0 (record c.args.key { now = q }))
    ∙ either (bytes_eq c.args.key.now q) c.args.value (lookup (λ k. bytes_eq q k.now) c.args.held.now.entries)
