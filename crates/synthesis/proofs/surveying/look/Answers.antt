use Rattle.std.proofs.Common.{◌≡◌, ◌-◌, length, take, arith}
use borrow.Rule.Slice.PartMut.{post_of}
use Rattle.std.proofs.lemmas.List.{length-take-le}
use Rattle.synthesis.specs.Tables.{automaton}
use Rattle.synthesis.proofs.Flags.{survey_flags}
use Rattle.synthesis.proofs.surveying.look.Goals as goal

pub returns : goal.returns
returns c =
    let r = c.in_ok-len.ensures in
    let n = c.in_ok-len.len in
    let a = r.0 in
    let k : length c.safe_part.new.safe ≡ length (take (n - 0) c.args.safe.now) = c.safe_part.auto.safe in (
      r,
      survey_flags (automaton c.args.arrows.now) c.args.c (length c.args.met.now) n c.reach.new.met c.reach.new.links c.safe_part.new.safe
          (post_of 0 (n - 0) c.args.safe.now) (omega (arith, a, c.reach.auto.met)) r
          (omega (arith, a, k, length-take-le (n - 0) c.args.safe.now (omega (arith, a)))) c.safe_part.ensures,
    )
