use Rattle.std.proofs.Common.{◌≡◌, ℕ, length, take, Some, None, sym, ◌∙◌, arith}
use Rattle.std.proofs.lemmas.List.{take_all}
use Rattle.synthesis.specs.Tables.{automaton}
use Rattle.synthesis.specs.Safety.{lowest_kept}
use Rattle.synthesis.proofs.Lowest.{chosen_alike}
use Rattle.synthesis.proofs.Pruned.{flag_inside}
use Rattle.synthesis.proofs.Together.{command_told}
use Rattle.synthesis.proofs.survey.Survey.command_at.Goals as goal

pub returns : goal.returns
returns c =
    let v = c.args.self.now in
    let len = length v.met.now in
    let A = automaton v.arrows.now in
    let inside = flag_inside v.safe.now c.args.place c.requires in
    let r = c.chosen in
    let same =
    chosen_alike (λ n links flags. lowest_kept n.commands n.situations links flags c.args.place) r.result.numbers v.arrows.now.numbers r.result.links.now v.links.now r.result.safe.now (take len v.safe.now) r.ensures.numbers r.ensures.links
    (r.ensures.safe ∙ sym (take_all len v.safe.now (omega (arith, v.flags)))) in
    let e = command_told A v.c v.room len v.met.now v.links.now v.safe.now (omega arith) v.arrows.now.numbers.few_situations v.surveyed (omega (arith, v.flags)) c.args.place (omega (arith, inside, v.flags)) c.requires
    (Some c.in-Some.command) (c.in-Some.ensures.value ∙ same) in
    cc

pub unreachable-requires : goal.unreachable-requires
unreachable-requires c =
    let v = c.args.self.now in
    let len = length v.met.now in
    let A = automaton v.arrows.now in
    let inside = flag_inside v.safe.now c.args.place c.requires in
    let r = c.chosen in
    let same =
    chosen_alike (λ n links flags. lowest_kept n.commands n.situations links flags c.args.place) r.result.numbers v.arrows.now.numbers r.result.links.now v.links.now r.result.safe.now (take len v.safe.now) r.ensures.numbers r.ensures.links
    (r.ensures.safe ∙ sym (take_all len v.safe.now (omega (arith, v.flags)))) in
    let e = command_told A v.c v.room len v.met.now v.links.now v.safe.now (omega arith) v.arrows.now.numbers.few_situations v.surveyed (omega (arith, v.flags)) c.args.place (omega (arith, inside, v.flags)) c.requires
    None (c.in-None.ensures.value ∙ same) in
    let y : ◌≡◌ {A = ℕ} 0 1 = cc in omega arith
