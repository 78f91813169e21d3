use Rattle.std.proofs.Common.{◌≡◌, ℕ, Bool, true, false, if◌then◌else◌, Option, None, Some, refl, sym, ap, ◌∙◌, subst}
use Rattle.std.specs.Option.{is_some}
use Rattle.rambo_config_map.specs.Maps.{MapState, end_of, merged_map}
use Rattle.rambo_paxos.specs.Attempts.{AttemptState}
use Rattle.rambo_paxos.specs.Votes.{VoteState}
use Rattle.rambo_bids.specs.Fitting.{AttemptFits}
use Rattle.rambo_bids.specs.Hearing.{heard_for}
use Rattle.rambo_bids.proofs.Merged.{fits_merged, fits_heard}
use Rattle.rambo_bids.proofs.hearing.hear_vote.Goals as goal

pub returns-then-is_level-clause-fits : goal.returns-then-is_level-clause-fits
returns-then-is_level-clause-fits g c own =
    let a = c.args.map.now in
    let b = c.args.told.now in
    let fits = fits_merged a b c.args.attempt.now own c.is_level.ensures.active.0 c.is_level.ensures.active.1 in
    subst (AttemptFits (merged_map a b)) (sym c.hear_vote_for.ensures) (fits_heard (merged_map a b) c.args.attempt.now _ _ _ fits)

pub returns-else-is_level-clause-fits : goal.returns-else-is_level-clause-fits
returns-else-is_level-clause-fits g c own =
    fits_merged c.args.map.now c.args.told.now c.args.attempt.now own c.is_level.ensures.active.0 c.is_level.ensures.active.1

module _ {Q : Type 0} where
  -- without an attempt none hears anything
  none_hears : (o : Option (AttemptState Q)) (level : Bool) (place j : ℕ) (v : VoteState Q) → is_some o ≡ false → o ≡ (if level then heard_for place o j v else o)
  none_hears None true place j v none = refl
  none_hears None false place j v none = refl
  none_hears (Some a) level place j v none = cc

  none_fits : (m : MapState Q) (o : Option (AttemptState Q)) → is_some o ≡ false → AttemptFits m o
  none_fits m None none = tt
  none_fits m (Some a) none = cc

pub returns-then-is_none-clause-after : goal.returns-then-is_none-clause-after
returns-then-is_none-clause-after g c =
    none_hears c.args.attempt.now _ (end_of c.args.told.now) c.args.from c.args.vote.now c.if-is_none.ensures

pub returns-then-is_none-clause-fits : goal.returns-then-is_none-clause-fits
returns-then-is_none-clause-fits g c own = none_fits (merged_map c.args.map.now c.args.told.now) c.args.attempt.now c.if-is_none.ensures

pub returns-then-is_level-clause-after : goal.returns-then-is_level-clause-after
returns-then-is_level-clause-after g c =
    let o = c.args.attempt.now in
    c.hear_vote_for.ensures ∙ ap (λ b. if b then heard_for (end_of c.args.told.now) o c.args.from c.args.vote.now else o) (sym c.if-is_level.true ∙ c.is_level.ensures.level)

pub returns-else-is_level-clause-after : goal.returns-else-is_level-clause-after
returns-else-is_level-clause-after g c =
    let o = c.args.attempt.now in
    ap (λ b. if b then heard_for (end_of c.args.told.now) o c.args.from c.args.vote.now else o) (sym c.if-is_level.false ∙ c.is_level.ensures.level)
