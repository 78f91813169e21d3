use Rattle.std.proofs.Common.{◌≡◌, ap, sym, ◌∙◌}
use Rattle.std.specs.Prelude.{if◌then◌else◌}
use Rattle.std.specs.FinSet as set
use Rattle.rambo_paxos.specs.Votes.{taken, has_accepted}
use Rattle.rambo_paxos.specs.Attempts.{only, bid_in, advanced_in, vote_advanced_in, vote_proposed, choice, proposing}
use Rattle.rambo_paxos.specs.declared.offer.Offer.TheVariants as offer
use Rattle.rambo_paxos.specs.declared.stage.Stage.TheVariants as stage
use Rattle.rambo_paxos.proofs.attempt.Attempt.advance.Goals as goal
use Rattle.rambo_paxos.proofs.attempt.Attempt.advance.Goals.{in-Some, in-None, then-has_accepted, else-has_accepted}

prepares : (g : _) (c : goal.After-self-in-Prepare-1 g) → c.args.self.now.stage ≡ stage.Prepare c.in-Prepare.told
prepares g c = sym (ap (λ a. a.stage) c.self.view_is) ∙ c.in-Prepare.is

chosen : (g : _) (c : goal.After-self-in-Prepare-1 g) → c.match-told.config ≡ choice c.in-Prepare.told c.self.inside.wish
chosen g c = elim c.match-told.branch [
  | in-Some w ↦ w.config-is ∙ ap (λ p. choice p c.self.inside.wish) (sym w.in-Some.is)
  | in-None w ↦ w.config-is ∙ ap (λ p. choice p c.self.inside.wish) (sym w.in-None.is)
]

pub returns-after-has_accepted-clause-vote : goal.returns-after-has_accepted-clause-vote
returns-after-has_accepted-clause-vote g c =
    c.take.ensures
    ∙ ap (λ q. taken c.args.vote.now (offer.Propose c.self.inside.ballot q)) (chosen g c)
    ∙ ap (λ a. vote_proposed a c.in-Prepare.told c.args.vote.now) c.self.view_is
    ∙ ap (λ s. vote_advanced_in s c.args.self.now c.args.vote.now) (sym (prepares g c))

pub returns-after-has_accepted-clause-ok : goal.returns-after-has_accepted-clause-ok
returns-after-has_accepted-clause-ok g c = ap bid_in (sym (prepares g c))

proposes : (g : _) (c : goal.After-new g) → c.args.self.now.stage ≡ stage.Propose c.in-Propose.config
proposes g c = sym (ap (λ a. a.stage) c.self.view_is) ∙ c.in-Propose.is

pub returns-in-Propose-clause-attempt : goal.returns-in-Propose-clause-attempt
returns-in-Propose-clause-attempt g c = ap (λ s. advanced_in s c.args.self.now c.args.vote.now) (sym (proposes g c))

pub returns-in-Propose-clause-vote : goal.returns-in-Propose-clause-vote
returns-in-Propose-clause-vote g c = c.new.ensures ∙ ap (λ s. vote_advanced_in s c.args.self.now c.args.vote.now) (sym (proposes g c))

pub returns-in-Propose-clause-ok : goal.returns-in-Propose-clause-ok
returns-in-Propose-clause-ok g c = ap bid_in (sym (proposes g c))

replied : (g : _) (c : goal.After-self-in-Prepare-1 g) → c.if-has_accepted.self ≡ (if c.has_accepted.result then only c.self.inside.ballot.name else set.empty)
replied g c = elim c.if-has_accepted.branch [
  | then-has_accepted w ↦ w.self-is ∙ w.with-self-inside.ensures ∙ ap (λ s. set.insert s c.self.inside.ballot.name) w.empty.ensures
      ∙ ap (λ b. if b then only c.self.inside.ballot.name else set.empty) (sym w.if-has_accepted.true)
  | else-has_accepted w ↦ w.self-is ∙ w.empty-self-inside.ensures
      ∙ ap (λ b. if b then only c.self.inside.ballot.name else set.empty) (sym w.if-has_accepted.false)
]

pub returns-after-has_accepted-clause-attempt : goal.returns-after-has_accepted-clause-attempt
unfolding proposing
returns-after-has_accepted-clause-attempt g c =
    let b = c.self.inside.ballot in
    let v = c.args.vote.now in
    let told = c.in-Prepare.told in
    let chosen_is = chosen g c in
    let takes = c.take.ensures ∙ ap (λ q. taken v (offer.Propose b q)) chosen_is in
    let replied_is = replied g c ∙ ap (λ x. if x then only b.name else set.empty) (c.has_accepted.ensures ∙ ap (λ t. has_accepted t b) takes) in
    (λ i. record { place = c.self.inside.place; ballot = b; wish = c.self.inside.wish; stage = stage.Propose (chosen_is i); repliers = replied_is i })
    ∙ ap (λ a. proposing a told v) c.self.view_is
    ∙ ap (λ s. advanced_in s c.args.self.now v) (sym (prepares g c))
