use Rattle.std.proofs.Common.{ℕ, ◌-◌, List, map, get_or, take, refl, ap, ◌∙◌, arith}
use Rattle.model.specs.Automaton.{no_row}
use Rattle.synthesis.specs.declared.state.State.{State}
use Rattle.synthesis.specs.Answers.{row_of}
use Rattle.sheet.proofs.Paging.{outcome}
use Rattle.sheet.proofs.Keeping.{framed_as}
use Rattle.sheet.proofs.page.Page.frame.Goals as goal

pub returns : goal.returns
returns c s shows =
    let k = c.in-Some.stored in
    let x = c.args.situation in
    let p = c.args.self.now in
    let v = c.as_slice.ensures.value in
    let (f, is, st) =
    framed_as p s shows k x c.next_at-current.result c.command_at-command.result c.in-Some.is (omega (arith, c.if-situation-situations.false, c.situations.ensures.value))
    (λ S l. c.next_at-current.ensures S l ∙ ap {B = ℕ} (λ (w : List State). get_or (get_or (map (row_of S) (take (k.found.states - 0) w)) k.current no_row).nexts x 0) v)
    (λ S. c.command_at-command.ensures S ∙ ap {B = ℕ} (λ (w : List State). (get_or (map (row_of S) (take (k.found.states - 0) w)) c.next_at-current.result no_row).command) v) in
    outcome _ _ _ _ is
    (record {
      house = shows.house;
      situations = shows.situations;
      commands = shows.commands;
      capacity = shows.capacity;
      added = shows.added;
      limit = shows.limit;
      stored = (f, refl, st);
    })
