use Rattle.std.proofs.Common.{◌≡◌, ℕ, ◌+◌, ◌<◌, ◌≤◌, List, [], ◌∷◌, ◌++◌, length, take, refl, sym, ap, ◌∙◌, arith, append-nil, append_assoc, length-append, length-take}
use Rattle.std.proofs.lemmas.List.{take_all, take_more}
use Rattle.rambo_config_map.proofs.places.append_slots.Goals as goal

one_more : {T : Type 0} (items init more : List T) (i cap room : ℕ) → items ≡ init ++ take i more → cap ≡ room → i < length more
    → length init + length more ≤ room → length items + 1 ≤ cap
one_more items init more i cap room e same h fits = omega (arith, ap length e ∙ length-append init (take i more), length-take i more, same, h, fits)

pub loop-slot-init : goal.loop-slot-init
loop-slot-init g c = (sym (append-nil c.args.slots.now.items), refl)

pub offset_bounds-more-slot-index : goal.offset_bounds-more-slot-index
offset_bounds-more-slot-index g c = assumption

pub push_reserved-requires : goal.push_reserved-requires
push_reserved-requires g c = (
  c.requires-raw.1.0,
  one_more c.loop-slot.slots.items c.args.slots.now.items c.args.more.now c.loop-slot.slot-index c.loop-slot.slots.capacity c.args.slots.now.capacity
      c.loop-slot.invariant.0 c.loop-slot.invariant.1 c.loop-slot-test.true c.requires,
)

pub loop-slot-preserved : goal.loop-slot-preserved
loop-slot-preserved g c =
    let more = c.args.more.now in
    let i = c.loop-slot.slot-index in (
      c.push_reserved.ensures.items ∙ ap (λ xs. xs ++ c.slot-item.result ∷ []) c.loop-slot.invariant.0
          ∙ append_assoc c.args.slots.now.items (take i more) (c.slot-item.result ∷ [])
          ∙ ap (λ xs. c.args.slots.now.items ++ xs) (ap (λ x. take i more ++ x ∷ []) c.slot-item.is ∙ sym (take_more more i c.slot-item.result c.loop-slot-test.true)),
      c.push_reserved.ensures.capacity ∙ c.loop-slot.invariant.1,
    )

pub returns-clause-items : goal.returns-clause-items
returns-clause-items g c =
    c.loop-slot.invariant.0 ∙ ap (λ xs. c.args.slots.now.items ++ xs) (take_all c.loop-slot.slot-index c.args.more.now c.loop-slot-test.false)

pub returns-clause-capacity : goal.returns-clause-capacity
returns-clause-capacity g c = c.loop-slot.invariant.1
