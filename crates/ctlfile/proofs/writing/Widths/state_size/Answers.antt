use Rattle.std.proofs.Common.{◌≡◌, ℕ, ◌-◌, List, length, take, arith}
use lib.ListN.{length-map}
use Rattle.std.proofs.lemmas.List.{length-take-le}
use Rattle.model.specs.File.{tally_byte}
use Rattle.model.proofs.Files.{record_length}
use Rattle.synthesis.specs.Answers.{row_of}
use Rattle.ctlfile.proofs.writing.Widths.state_size.Goals as goal

pub returns : goal.returns
returns c =
    let S = c.args.self.situations in
    let n = c.args.self.rule_states in
    let nexts : List ℕ = c.args.state.now.nexts in
    let marks : List ℕ = c.args.state.now.position.marks in
    let a : length (take (S - 0) nexts) ≡ S - 0 = length-take-le (S - 0) nexts (omega arith) in
    let b : length (take (n - 0) marks) ≡ n - 0 = length-take-le (n - 0) marks (omega arith) in
    let e = record_length S (row_of S c.args.state.now) (length-take-le S nexts (omega arith)) in
    let f = length-map (take n marks) tally_byte in
    let h = length-take-le n marks (omega arith) in
    record { takes = omega (arith, a, b, e, f, h); counted = omega (arith, a, b) }
