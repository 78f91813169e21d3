use Rattle.std.proofs.Common.{◌≡◌, Bool, not, nat_eq, eqb-true, true, false, refl, Some, [], ◌∷◌, ◌++◌, sym, ap, ◌∙◌, subst}
use Rattle.std.proofs.lemmas.Bool.{not-false}
use Rattle.rambo_gossip.specs.Letters.{LetterState}
use Rattle.rambo_run.specs.Runs.{run}
use Rattle.rambo_mail.specs.declared.mail.Mail.{Mail}
use Rattle.rambo_book.specs.Kept.{BookView, KeeperView, state}
use Rattle.rambo_book.specs.Mailing.{goes_to, sent_to, IsBehind}
use Rattle.rambo_book.proofs.Taking.{nothing_behind}
use Rattle.rambo_book.specs.Windows.{gone_of}
use Rattle.rambo_book.proofs.Trays.{tray_more, sent_one}
use Rattle.rambo_book.proofs.Windows.{kept_is, within_all}
use Rattle.rambo_book.proofs.Books.{whole_book}
use Rattle.rambo_book.proofs.mail.take_letter.Goals as goal

pub invariant_of-keeper-2 : goal.invariant_of-keeper-2
invariant_of-keeper-2 g c =
    let same = ap (λ (k : KeeperView _). k.seen) c.keeper.view_is ∙ c.requires ∙ sym (ap (λ (b : BookView _). b.steps) c.book.view_is) in
    let w = run g.Q.Quorums.system c.book.inside.founders c.book.inside.steps.all in
    let v = c.book.inside.letters in
    let inside = within_all w v _ c.book.invariant.0.gone in
    let there = kept_is w v inside c.args.entry.number c.in_ok-letter.letter (sym c.in-Some.ensures ∙ ap Some (sym c.in_ok-letter.ensures.same)) in
    let own = ap (λ (l : LetterState _). l.addressee) c.in_ok-letter.ensures.same ∙ sym c.addressee.ensures ∙ eqb-true c.addressee.result c.keeper.inside.name (not-false (nat_eq c.addressee.result c.keeper.inside.name) (sym c.ne.ensures ∙ c.if-ne.false)) in
    tray_more (whole_book c.book.invariant.0) c.keeper.invariant same c.args.entry.number c.args.entry.asks c.in_ok-letter.letter c.push_reserved.new.self.items there own
    (c.push_reserved.ensures.items ∙ ap (λ tray. tray ++ record { number = c.args.entry.number; asks = c.args.entry.asks; letter = c.in_ok-letter.letter } ∷ []) c.in_ok-reserve.ensures.items)

pub returns-in_default-clause-tray : goal.returns-in_default-clause-tray
returns-in_default-clause-tray g c =
    let s = g.Q.Quorums.system in
    let b = c.book.inside in
    let n = c.args.entry.number in
    let k = c.args.keeper.now in
    let w = run s b.founders b.steps.all in
    let v = b.letters in
    let other = ap (goes_to k.name) (sym c.in_default.ensures) in
    subst (λ b. IsBehind k.tray (sent_to (state s b) (gone_of g.J.Terms.endless g.J.Terms.capacity (state s b)) k.name (n ∷ [])) k.tray) c.book.view_is
    (subst (λ ns. IsBehind k.tray ns k.tray) (sym (sent_one w v (within_all w v _ c.book.invariant.0.gone) c.book.invariant.0.sent (gone_of g.J.Terms.endless g.J.Terms.capacity w) k.name n false c.book.invariant.0.gone other)) (nothing_behind k.tray))

unlike : (b : Bool) → not b ≡ true → b ≡ false
unlike true e = absurd cc
unlike false e = refl

pub returns-then-ne-clause-tray : goal.returns-then-ne-clause-tray
returns-then-ne-clause-tray g c =
    let s = g.Q.Quorums.system in
    let b = c.book.inside in
    let k = c.keeper.inside in
    let n = c.args.entry.number in
    let tray = k.tray.items in
    let w = run s b.founders b.steps.all in
    let v = b.letters in
    let there = sym c.in-Some.ensures in
    let other = ap (goes_to k.name) there ∙ ap (λ a. nat_eq a k.name) (sym c.addressee.ensures) ∙ unlike (nat_eq c.addressee.result k.name) (sym c.ne.ensures ∙ c.if-ne.true) in
    subst (λ b. IsBehind c.args.keeper.now.tray (sent_to (state s b) (gone_of g.J.Terms.endless g.J.Terms.capacity (state s b)) c.args.keeper.now.name (n ∷ [])) c.args.keeper.now.tray) c.book.view_is
    (subst (λ (v : KeeperView _). IsBehind v.tray (sent_to w (gone_of g.J.Terms.endless g.J.Terms.capacity w) v.name (n ∷ [])) v.tray) c.keeper.view_is
    (subst (λ ns. IsBehind tray ns tray) (sym (sent_one w v (within_all w v _ c.book.invariant.0.gone) c.book.invariant.0.sent (gone_of g.J.Terms.endless g.J.Terms.capacity w) k.name n false c.book.invariant.0.gone other)) (nothing_behind tray)))

pub returns-clause-tray : goal.returns-clause-tray
returns-clause-tray g c =
    let s = g.Q.Quorums.system in
    let b = c.book.inside in
    let k = c.keeper.inside in
    let n = c.args.entry.number in
    let w = run s b.founders b.steps.all in
    let v = b.letters in
    let there = sym c.in-Some.ensures in
    let own : nat_eq c.addressee.result k.name ≡ true = not-false (nat_eq c.addressee.result k.name) (sym c.ne.ensures ∙ c.if-ne.false) in
    let here = ap (goes_to k.name) there ∙ ap (λ a. nat_eq a k.name) (sym c.addressee.ensures) ∙ own in
    let mail : Mail _ = record { number = n; asks = c.args.entry.asks; letter = c.in_ok-letter.letter } in
    let pushed : IsBehind k.tray.items (sent_to w (gone_of g.J.Terms.endless g.J.Terms.capacity w) k.name (n ∷ [])) c.push_reserved.new.self.items = record {
      more = mail ∷ [];
      tray = c.push_reserved.ensures.items ∙ ap (λ tray. tray ++ mail ∷ []) c.in_ok-reserve.ensures.items;
      numbered = sym (sent_one w v (within_all w v _ c.book.invariant.0.gone) c.book.invariant.0.sent (gone_of g.J.Terms.endless g.J.Terms.capacity w) k.name n true c.book.invariant.0.gone here);
    } in
    subst (λ b. IsBehind c.args.keeper.now.tray (sent_to (state s b) (gone_of g.J.Terms.endless g.J.Terms.capacity (state s b)) c.args.keeper.now.name (n ∷ [])) c.push_reserved.new.self.items) c.book.view_is
    (subst (λ (v : KeeperView _). IsBehind v.tray (sent_to w (gone_of g.J.Terms.endless g.J.Terms.capacity w) v.name (n ∷ [])) c.push_reserved.new.self.items) c.keeper.view_is pushed)
