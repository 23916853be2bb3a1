use Rattle.std.proofs.Common.{◌≡◌, suc, ◌+◌, ◌-◌, ◌<◌, ◌≤◌, true, false, length, take, map, Some, sym, refl, ap, ◌∙◌, subst, arith, length-take}
use Rattle.std.proofs.lemmas.List.{take_all, get_or-take}
use Rattle.model.specs.Positions.{member, safe_part, start_position, found, found_in, try_from}
use Rattle.synthesis.specs.Tables.{automaton, view}
use Rattle.synthesis.specs.Surveys.{shown, Surveyed}
use Rattle.synthesis.proofs.Pruned.{flag_inside}
use Rattle.synthesis.proofs.Tries.{try_begins, try_found, try_next, start_told, start_unsafe}
use Rattle.synthesis.proofs.Stored.{stores}
use Rattle.synthesis.proofs.solving.solve_table.Goals as goal

pub loop-c-init : goal.loop-c-init
loop-c-init c = (try_begins (automaton c.args.arrows.now) (length c.args.met.now) c.args.limit, refl, refl)

pub returns-then-is_safe : goal.returns-then-is_safe
returns-then-is_safe c =
    let A = automaton c.args.arrows.now in
    let room = length c.args.met.now in
    let at = c.loop-c.c in
    let len = c.in-Some.len in
    let met = c.look.new.met in
    let links = c.look.new.links in
    let safe = c.look.new.safe in
    let slots = take (len - 0) met in
    let n = length slots in
    let s : Surveyed A at room (Some len) met links safe = subst (λ r. Surveyed A at r (Some len) met links safe) c.loop-c.invariant.1 c.in-Some.ensures in
    let within : len ≤ room = s.0.0 in
    let some : 0 < len = let i = flag_inside (take (len - 0) safe) 0 (sym c.if-is_safe.ensures) in omega (arith, i, length-take (len - 0) safe) in
    let L = shown A len met in
    let z : len - 0 ≡ len = omega arith in
    let e : shown A n slots ≡ L = ap (map (view A.states)) (take_all n slots (omega arith) ∙ ap (λ k. take k met) z) in
    let m : member (safe_part A L) (start_position A) ≡ true =
    sym (start_told A room at len met links safe (omega (arith, within, c.look.auto.met, c.loop-c.invariant.1)) s some) ∙ sym (get_or-take (len - 0) safe 0 false (omega (arith, some))) ∙ sym c.if-is_safe.ensures in
    let few : n ≤ room = omega (arith, within, length-take (len - 0) met) in (
      found_in A at (safe_part A (shown A n slots)),
      sym c.loop-c.invariant.0 ∙ try_found A room c.args.limit at L (omega arith) s.0.1 m ∙ ap (λ v. found (found_in A at (safe_part A v))) (sym e),
      stores A at n slots (take (len - 0) safe) c.control-count.result c.control-count.new.places c.control-count.new.nexts c.args.arrows.now.numbers.few_situations c.control-count.ensures
          (omega (arith, few, c.control-count.auto.places, c.loop-c.auto.places, c.requires.state_room.0)) c.store.new.states (omega (arith, few, c.store.auto.states, c.loop-c.auto.states, c.requires.state_room.1.1)) c.store.ensures
          (record { count = at; states = c.control-count.result }) refl refl,
    )

pub loop-c-preserved : goal.loop-c-preserved
loop-c-preserved c =
    let A = automaton c.args.arrows.now in
    let room = length c.args.met.now in
    let at = c.loop-c.c in
    let len = c.in-Some.len in
    let met = c.look.new.met in
    let safe = c.look.new.safe in
    let s : Surveyed A at room (Some len) met c.look.new.links safe = subst (λ r. Surveyed A at r (Some len) met c.look.new.links safe) c.loop-c.invariant.1 c.in-Some.ensures in
    let within : len ≤ room = s.0.0 in
    let m = start_unsafe A room at len met c.look.new.links safe (omega (arith, within, c.look.auto.met, c.loop-c.invariant.1)) s (sym c.if-is_safe.ensures) in
    (try_next A room c.args.limit at (shown A len met) (omega arith) s.0.1 m ∙ c.loop-c.invariant.0, c.look.auto.met ∙ c.loop-c.invariant.1, c.look.auto.safe ∙ c.loop-c.invariant.2)

pub returns-else-is_safe : goal.returns-else-is_safe
returns-else-is_safe c =
    let A = automaton c.args.arrows.now in
    let room = length c.args.met.now in
    let at = c.loop-c.c in
    let len = c.in-Some.len in
    let met = c.look.new.met in
    let safe = c.look.new.safe in
    let s : Surveyed A at room (Some len) met c.look.new.links safe = subst (λ r. Surveyed A at r (Some len) met c.look.new.links safe) c.loop-c.invariant.1 c.in-Some.ensures in
    let within : len ≤ room = s.0.0 in
    let m = start_unsafe A room at len met c.look.new.links safe (omega (arith, within, c.look.auto.met, c.loop-c.invariant.1)) s (sym c.if-is_safe.ensures) in
    let none : suc c.args.limit - (at + 1) ≡ 0 = omega arith in
    sym c.loop-c.invariant.0 ∙ sym (try_next A room c.args.limit at (shown A len met) (omega arith) s.0.1 m) ∙ ap (λ t. try_from A room t (at + 1)) none
