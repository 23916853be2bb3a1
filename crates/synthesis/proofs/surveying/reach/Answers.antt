use Rattle.std.proofs.Common.{◌≡◌, length, sym, ap, ◌∙◌, subst, zero-le, arith}
use Rattle.model.specs.Search.{reached_from}
use Rattle.model.specs.Positions.{fits, start_position}
use Rattle.model.proofs.Runs.{start_length}
use Rattle.search.specs.Meeting.{successors as neighbours, Found}
use Rattle.synthesis.specs.Tables.{automaton, view, stored}
use Rattle.synthesis.specs.Surveys.{Reached}
use Rattle.synthesis.proofs.Deciding.{same_refl}
use Rattle.synthesis.proofs.Showing.{view_stored, explored_reached, over_at_start, alike, at_place}
use Rattle.synthesis.proofs.surveying.reach.Goals as goal

pub returns-then-not-fits : goal.returns-then-not-fits
returns-then-not-fits c =
    let A = automaton c.args.arrows.now in
    let v : view A.states c.start-first.result ≡ start_position A = ap (view A.states) c.start-first.ensures ∙ view_stored A.states (start_position A) (start_length A) in
    (zero-le, over_at_start A c.args.c (length c.args.met.now) (ap (fits c.args.c) (sym v) ∙ sym c.if-not-fits.ensures), λ h u x l. absurd (omega (arith, l)))

pub explore_rows-requires : goal.explore_rows-requires
explore_rows-requires c = (omega arith, (omega arith, (omega arith, (omega arith, (omega arith, (omega arith, λ x. same_refl x.marks))))))

pub returns : goal.returns
returns c =
    let A = automaton c.args.arrows.now in
    let c8 = c.args.arrows.now.numbers.few_commands in
    let s8 = c.args.arrows.now.numbers.few_situations in
    let slots = c.explore_rows.new.met in
    let e : c.start-first.result ≡ stored (start_position A) = c.start-first.ensures in
    let v : view A.states c.start-first.result ≡ start_position A = ap (view A.states) e ∙ view_stored A.states (start_position A) (start_length A) in
    let k : length c.args.met.now ≡ length slots = sym c.explore_rows.auto.met in
    let go = at_place A c.args.c c8 s8 in
    subst (λ n. Reached A c.args.c n c.explore_rows.result slots c.explore_rows.new.links) (sym k)
    (explored_reached A c.args.c c8 s8 c.explore_rows.result slots c.explore_rows.new.links (ap (fits c.args.c) (sym v) ∙ sym c.if-not-fits.ensures)
    (subst (λ n. Found c.explore_rows.result slots (reached_from alike (neighbours 64 go) n (stored (start_position A)))) k
    (subst (λ P. Found c.explore_rows.result slots (reached_from alike (neighbours 64 go) (length c.args.met.now) P)) e c.explore_rows.ensures.nodes))
    c.explore_rows.ensures.links)
