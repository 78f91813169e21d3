use Rattle.std.proofs.Common.{◌≡◌, ◌∙◌, Option, None, Some, option_map, IfSome, sym, ap, subst}
use mathlib.Core.List.{IsPrefix}
use Rattle.rambo_names.proofs.Sizes.{up_fits, back_fits, variant_fits}
use Rattle.rambo_book.specs.declared.readied.Ready.{Ready}
use Rattle.rambo_book.specs.Readying.{IsReadyFor}
use Rattle.rambo_book.specs.Kept.{KeeperView}
use Rattle.rambo_turn.specs.Turns.{IsQuiet, next_of}
use Rattle.rambo_visit.proofs.Happenings.{held_up, held, next_so, next_then, something_then, turned_so}
use Rattle.rambo_post.proofs.post.Post.turn_held.Goals as goal

pub keeper_of-keeper-requires : goal.keeper_of-keeper-requires
keeper_of-keeper-requires g c = let post = c.requires-raw.1.1.1.1.1.1 in (post, back_fits _ _ _ (up_fits _ _ _ (back_fits _ _ _ (up_fits _ _ _ (variant_fits _ _ _ _ (back_fits _ _ _ (up_fits _ _ _ post)))))))

pub begin-begun-requires : goal.begin-begun-requires
begin-begun-requires g c = let post = c.requires-raw.1.1.1.1.1.1 in (post, back_fits _ _ _ (up_fits _ _ _ (back_fits _ _ _ (up_fits _ _ _ (variant_fits _ _ _ _ (back_fits _ _ _ (up_fits _ _ _ post)))))))

pub facts-requires : goal.facts-requires
facts-requires g c = let post = c.requires-raw.1.1.1.1.1.1 in back_fits _ _ _ (up_fits _ _ _ (back_fits _ _ _ (up_fits _ _ _ (variant_fits _ _ _ _ (back_fits _ _ _ (up_fits _ _ _ post))))))

pub ready_next-requires : goal.ready_next-requires
ready_next-requires g c = let post = c.requires-raw.1.1.1.1.1.1 in back_fits _ _ _ (up_fits _ _ _ (back_fits _ _ _ (up_fits _ _ _ (variant_fits _ _ _ _ (back_fits _ _ _ (up_fits _ _ _ post))))))

pub commit_next-turn-requires : goal.commit_next-turn-requires
commit_next-turn-requires g c =
    let post = c.requires-raw.1.1.1.1.1.1 in
    let ready = subst (λ (o : Option (Ready _)). IfSome o (IsReadyFor g.Q.Quorums.system g.J.Terms.founders c.ready_next.new.keeper)) c.in-Some.is c.in-Ok.ensures.ready in
    let quiet = subst (λ (o : Option (Ready _)). IfSome o (λ (r : Ready _). IsQuiet r.step)) c.in-Some.is c.in-Ok.ensures.quiet in
    (back_fits _ _ _ (up_fits _ _ _ (back_fits _ _ _ (up_fits _ _ _ (variant_fits _ _ _ _ (back_fits _ _ _ (up_fits _ _ _ post)))))), (subst (λ k. IsReadyFor g.Q.Quorums.system g.J.Terms.founders k c.in-Some.half) (sym c.deref_mut-4.ensures.value) ready, quiet))

pub drop-keeper-requires-room-T-Destruct : goal.drop-keeper-requires-room-T-Destruct
drop-keeper-requires-room-T-Destruct g c κs within = let post = c.requires-raw.1.1.1.1.1.1 in back_fits _ _ _ (up_fits _ _ _ (back_fits _ _ _ (up_fits _ _ _ (variant_fits _ _ _ _ (back_fits _ _ _ (up_fits _ _ _ post))))))

pub drop-keeper-requires-in_default-room-T-Destruct : goal.drop-keeper-requires-in_default-room-T-Destruct
drop-keeper-requires-in_default-room-T-Destruct g c κs within = let post = c.requires-raw.1.1.1.1.1.1 in back_fits _ _ _ (up_fits _ _ _ (back_fits _ _ _ (up_fits _ _ _ (variant_fits _ _ _ _ (back_fits _ _ _ (up_fits _ _ _ post))))))

pub drop-keeper-requires-in_default-next-room-T-Destruct : goal.drop-keeper-requires-in_default-next-room-T-Destruct
drop-keeper-requires-in_default-next-room-T-Destruct g c κs within = let post = c.requires-raw.1.1.1.1.1.1 in back_fits _ _ _ (up_fits _ _ _ (back_fits _ _ _ (up_fits _ _ _ (variant_fits _ _ _ _ (back_fits _ _ _ (up_fits _ _ _ post))))))

pub drop-keeper-requires-2-room-T-Destruct : goal.drop-keeper-requires-2-room-T-Destruct
drop-keeper-requires-2-room-T-Destruct g c κs within = let post = c.requires-raw.1.1.1.1.1.1 in back_fits _ _ _ (up_fits _ _ _ (back_fits _ _ _ (up_fits _ _ _ (variant_fits _ _ _ _ (back_fits _ _ _ (up_fits _ _ _ post))))))

pub returns-in_default-clause-cause : goal.returns-in_default-clause-cause
returns-in_default-clause-cause g c =
    let s = g.Q.Quorums.system in
    let agreed = g.J.Terms.founders in
    let most = g.J.Terms.capacity in
    let name = c.args.name in
    let k = c.deref.result.now in
    let h = c.facts.ensures in
    let same : k ≡ c.deref_mut-2.result.now = c.deref.ensures ∙ sym c.deref_mut-2.ensures.value in
    let named : k.name ≡ name = ap (λ (k : KeeperView _). k.name) c.deref.ensures ∙ c.begin-begun.ensures.name ∙ ap (λ (k : KeeperView _). k.name) c.deref_mut.ensures.value ∙ c.keeper_of-keeper.ensures in
    let b = c.no_room.ensures in
    let it = c.in_default.ensures.something in
    let something = something_then s agreed most name k named h.legal h.fits h.node h.tray it.0 (λ f is. it.1 f is ∙ ap (next_of s f) (sym same)) in
    held s agreed most c.deref-in_default.result.now b.founders b.capacity b.legal name c.no_room.result b.told something

pub returns-in_default-next-clause-told : goal.returns-in_default-next-clause-told
returns-in_default-next-clause-told g c =
    let s = g.Q.Quorums.system in
    let agreed = g.J.Terms.founders in
    let most = g.J.Terms.capacity in
    let name = c.args.name in
    let k = c.deref.result.now in
    let h = c.facts.ensures in
    let same : k ≡ c.deref_mut-2.result.now = c.deref.ensures ∙ sym c.deref_mut-2.ensures.value in
    let named : k.name ≡ name = ap (λ (k : KeeperView _). k.name) c.deref.ensures ∙ c.begin-begun.ensures.name ∙ ap (λ (k : KeeperView _). k.name) c.deref_mut.ensures.value ∙ c.keeper_of-keeper.ensures in
    next_then s agreed most name k named h.legal h.fits h.node h.tray None
    (λ f is. sym (ap (option_map (λ (r : Ready _). r.step)) c.in_default-next.is) ∙ c.in-Ok.ensures.picked f is ∙ ap (next_of s f) (sym same))

pub returns-clause-told : goal.returns-clause-told
returns-clause-told g c =
    let s = g.Q.Quorums.system in
    let agreed = g.J.Terms.founders in
    let most = g.J.Terms.capacity in
    let name = c.args.name in
    let k = c.deref.result.now in
    let h = c.facts.ensures in
    let same : k ≡ c.deref_mut-2.result.now = c.deref.ensures ∙ sym c.deref_mut-2.ensures.value in
    let named : k.name ≡ name = ap (λ (k : KeeperView _). k.name) c.deref.ensures ∙ c.begin-begun.ensures.name ∙ ap (λ (k : KeeperView _). k.name) c.deref_mut.ensures.value ∙ c.keeper_of-keeper.ensures in
    let done = c.commit_next-turn.ensures in
    let b = c.deref_mut-3.result.now in
    let st = c.in-Some.half.step in
    let first : (f : _) → agreed ≡ Some f → Some st ≡ next_of s f k = λ f is. sym (ap (option_map (λ (r : Ready _). r.step)) c.in-Some.is) ∙ c.in-Ok.ensures.picked f is ∙ ap (next_of s f) (sym same) in
    let seen : c.deref_mut-4.result.now.seen ≡ k.seen = ap (λ (k : KeeperView _). k.seen) (c.deref_mut-4.ensures.value ∙ c.in-Ok.ensures.same) ∙ ap (λ (k : KeeperView _). k.seen) (sym same) in
    let f = b.founders in
    turned_so s agreed most b done.terms.0 done.terms.1 done.before name c.commit_next-turn.result st k.seen (subst (λ l. IsPrefix l b.steps) seen done.between) done.did done.legal done.room
    (next_so s f name k (Some st) named (h.node f done.terms.0) (h.tray f done.terms.0) (first f done.terms.0))

pub returns-clause-cause : goal.returns-clause-cause
returns-clause-cause g c =
    let s = g.Q.Quorums.system in
    let agreed = g.J.Terms.founders in
    let most = g.J.Terms.capacity in
    let name = c.args.name in
    let k = c.deref.result.now in
    let h = c.facts.ensures in
    let same : k ≡ c.deref_mut-2.result.now = c.deref.ensures ∙ sym c.deref_mut-2.ensures.value in
    let named : k.name ≡ name = ap (λ (k : KeeperView _). k.name) c.deref.ensures ∙ c.begin-begun.ensures.name ∙ ap (λ (k : KeeperView _). k.name) c.deref_mut.ensures.value ∙ c.keeper_of-keeper.ensures in
    let done = c.commit_next-turn.ensures in
    let st = c.in-Some.half.step in
    let first : (f : _) → agreed ≡ Some f → Some st ≡ next_of s f k = λ f is. sym (ap (option_map (λ (r : Ready _). r.step)) c.in-Some.is) ∙ c.in-Ok.ensures.picked f is ∙ ap (next_of s f) (sym same) in
    held_up s agreed most c.deref_mut-3.result.now done.terms.0 done.terms.1 done.before name c.commit_next-turn.result done.told (something_then s agreed most name k named h.legal h.fits h.node h.tray st first)

pub came_by-came-requires : goal.came_by-came-requires
came_by-came-requires g c = back_fits _ _ _ (up_fits _ _ _ (back_fits _ _ _ (up_fits _ _ _ (variant_fits _ _ _ _ (back_fits _ _ _ (up_fits _ _ _ c.requires-raw.1.1.1.1.1.1))))))

pub note_turn-requires : goal.note_turn-requires
note_turn-requires g c = (c.requires-raw.1.1.1.1.1.1, back_fits _ _ _ (up_fits _ _ _ (back_fits _ _ _ (up_fits _ _ _ (variant_fits _ _ _ _ (back_fits _ _ _ (up_fits _ _ _ c.requires-raw.1.1.1.1.1.1)))))))
