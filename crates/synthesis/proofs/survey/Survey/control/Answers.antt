use Rattle.std.proofs.Common.{◌≡◌, ℕ, ◌-◌, ◌<◌, ◌≤◌, Bool, true, eqb, List, length, take, Some, sym, ap, ◌∙◌, subst, arith}
use mathlib.Core.Option.{none}
use borrow.Rule.Slice.PartMut.{post_of}
use Rattle.std.proofs.lemmas.List.{length-take-le, take_all}
use Rattle.model.specs.Search.{reached_from}
use Rattle.search.specs.Meeting.{successors, Found, Linked}
use Rattle.synthesis.specs.Tables.{automaton}
use Rattle.synthesis.specs.Safety.{flag, trues}
use Rattle.synthesis.specs.Control.{onward}
use Rattle.synthesis.proofs.Lowest.{chosen_alike}
use Rattle.synthesis.proofs.Pruned.{flag_inside}
use Rattle.synthesis.proofs.Whole.{trues_some, trues_short, trues_counted}
use Rattle.synthesis.proofs.Together.{controlled, never_crowded}
use Rattle.synthesis.proofs.survey.Survey.control.Goals as goal

-- the number of safe places, and the part of the states that is lent
sized : (len room : ℕ) (safe : List Bool) (states : List ℕ) → length safe ≡ len → len ≤ length states → room ≡ trues safe → flag safe 0 ≡ true
    → (0 < len) × (0 < room) × (room ≤ len) × (length (take (room - 0) states) ≡ room) × (take len safe ≡ safe)
sized len room safe states hf hs e b =
    let inside = flag_inside safe 0 b in
    let pos : 0 < trues safe = trues_some safe inside b in
    let few = trues_short safe in
    let lr : length (take (room - 0) states) ≡ room - 0 = length-take-le (room - 0) states (omega (arith, few, e, hf)) in
    (omega (arith, inside, hf), omega (arith, pos, e), omega (arith, few, e, hf), omega (arith, lr), take_all len safe (omega (arith, hf)))

pub returns : goal.returns
returns c =
    let v = c.args.self.now in
    let A = automaton v.arrows.now in
    let len = length v.met.now in
    let links = v.links.now in
    let safe = v.safe.now in
    let room = c.count-room.result in
    let part = c.number.new.places in
    let n = c.in-Some.n in
    let counted = c.count-room.ensures ∙ trues_counted safe in
    let k = sized len room safe c.args.places.now v.flags c.requires.room.0 counted c.requires.start in
    let go = λ (flags : List Bool). onward A.commands A.situations links flags in
    let r = c.chosen-chosen in
    let same =
    chosen_alike (λ m ls fs. onward m.commands m.situations ls fs) r.result.numbers v.arrows.now.numbers r.result.links.now links r.result.safe.now (take len safe) r.ensures.numbers r.ensures.links (r.ensures.safe ∙ sym k.4) in
    let lp : length part ≡ trues (take len safe) = c.number.auto.places ∙ k.3 ∙ counted ∙ ap trues (sym k.4) in
    let el : length (take (room - 0) c.args.places.now) ≡ trues (take len safe) = k.3 ∙ counted ∙ ap trues (sym k.4) in
    controlled A v.c v.room len v.met.now links safe (omega arith) v.arrows.now.numbers.few_situations v.surveyed (omega (arith, v.flags)) k.0 c.requires.start
    n part (post_of 0 (room - 0) c.args.places.now) c.number.new.nexts lp
    (subst (λ r. Found (Some n) part (reached_from eqb (successors 8 (go (take len safe))) r 0)) el
    (subst (λ to. Found (Some n) part (reached_from eqb (successors 8 to) (length (take (room - 0) c.args.places.now)) 0)) same c.in-Some.ensures.places))
    (subst (λ to. Linked eqb 8 to (take n part) c.number.new.nexts n) same c.in-Some.ensures.nexts)

pub unreachable-requires : goal.unreachable-requires
unreachable-requires c =
    let v = c.args.self.now in
    let A = automaton v.arrows.now in
    let len = length v.met.now in
    let links = v.links.now in
    let safe = v.safe.now in
    let room = c.count-room.result in
    let counted = c.count-room.ensures ∙ trues_counted safe in
    let k = sized len room safe c.args.places.now v.flags c.requires.room.0 counted c.requires.start in
    let go = λ (flags : List Bool). onward A.commands A.situations links flags in
    let r = c.chosen-chosen in
    let same =
    chosen_alike (λ m ls fs. onward m.commands m.situations ls fs) r.result.numbers v.arrows.now.numbers r.result.links.now links r.result.safe.now (take len safe) r.ensures.numbers r.ensures.links (r.ensures.safe ∙ sym k.4) in
    let el : length (take (room - 0) c.args.places.now) ≡ trues (take len safe) = k.3 ∙ counted ∙ ap trues (sym k.4) in
    never_crowded A v.c v.room len v.met.now links safe (omega arith) v.arrows.now.numbers.few_situations v.surveyed (omega (arith, v.flags)) k.0 c.requires.start
    (subst (λ r. reached_from eqb (successors 8 (go (take len safe))) r 0 ≡ none) el
    (subst (λ to. reached_from eqb (successors 8 to) (length (take (room - 0) c.args.places.now)) 0 ≡ none) same c.in-None.ensures.places))
