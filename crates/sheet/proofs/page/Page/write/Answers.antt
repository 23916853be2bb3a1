use Rattle.std.proofs.Common.{◌≡◌, ◌-◌, List, take, subst}
use Rattle.ctlfile.specs.Files as Put
use Rattle.synthesis.specs.declared.state.State.{State}
use Rattle.synthesis.specs.Tables.{automaton}
use Rattle.sheet.proofs.Files.{writes_as}
use Rattle.sheet.proofs.page.Page.write.Goals as goal

pub returns-clause-said : goal.returns-clause-said
returns-clause-said c s shows =
    let p = c.args.self.now in
    let k = c.in-Some.stored in
    let A = automaton c.rules.result.arrows in
    let buffer = c.args.buffer.now in
    let F = λ (states : List State). Put.file_of A (take (k.found.states - 0) states) k.found.count in
    let whole = c.as_slice.ensures.value in
    let said : c.write.result ≡ Put.written (F p.workspace.states.items) buffer = subst (λ v. c.write.result ≡ Put.written (F v) buffer) whole c.write.ensures.said in
    let left : c.write.new.buffer ≡ Put.left (F p.workspace.states.items) buffer = subst (λ v. c.write.new.buffer ≡ Put.left (F v) buffer) whole c.write.ensures.left in
    writes_as p s shows A c.rules.ensures k buffer c.write.new.buffer c.write.result c.in-Some.is said left
