use Rattle.rambo_names.proofs.Sizes.{up_fits, back_fits, variant_fits}
use Rattle.std.proofs.Common.{arith, ◌≡◌, List, ℕ, take, drop, length, ◌++◌, ap, ◌∙◌, subst, sym}
use Rattle.rambo_calls.specs.Kept.{calls_of, IsRoomy}
use Rattle.std.proofs.Math.Seq.{take-append_seam}
use Rattle.std.specs.Result.{OnOk}
use Rattle.rambo_calls.proofs.open_calls.OpenCalls.make_room.Goals as goal

-- a list that is written whole, from its first place on
written : {A : Type 0} (new old : List A) (count : ℕ) → count ≡ length new → take count (new ++ drop (length new) old) ≡ new
written new old count e = ap (λ n. take n (new ++ drop (length new) old)) e ∙ take-append_seam new _

pub make_room-requires : goal.make_room-requires
make_room-requires g c = (variant_fits _ _ _ _ (back_fits _ _ _ (up_fits _ _ _ c.requires-raw.1.0)), c.requires-raw.1.1)

pub returns-clause-same : goal.returns-clause-same
returns-clause-same g c =
    ap calls_of (written c.make_room.new.calls c.self.inside.list.items c.self.inside.list.len (omega (arith, c.make_room.auto.calls, c.as_mut_slice.ensures.len)))
    ∙ c.make_room.ensures.same ∙ ap calls_of (c.as_mut_slice.ensures.value ∙ ap (λ k. k.list) c.self.view_is)

pub returns-clause-ok : goal.returns-clause-ok
returns-clause-ok g c =
    let whole = written c.make_room.new.calls c.self.inside.list.items c.self.inside.list.len (omega (arith, c.make_room.auto.calls, c.as_mut_slice.ensures.len)) in
    subst (λ cs. OnOk c.make_room.result (IsRoomy c.args.map.now cs)) (sym whole) c.make_room.ensures.ok

pub returns-clause-succeeds : goal.returns-clause-succeeds
returns-clause-succeeds g c = λ room. c.make_room.ensures.succeeds (subst (IsRoomy c.args.map.now) (sym (c.as_mut_slice.ensures.value ∙ ap (λ k. k.list) c.self.view_is)) room)

pub returns-clause-refused : goal.returns-clause-refused
returns-clause-refused g c = c.make_room.ensures.refused
