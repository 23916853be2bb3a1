use Rattle.std.proofs.Common.{◌≡◌, get_or, sym, ◌∙◌}
use Rattle.model.specs.File.{number_of, piece}
use Rattle.ctlfile.specs.Trailers.{trailer_in}
use Rattle.ctlfile.proofs.Numbers.{two_at}
use Rattle.ctlfile.proofs.trailer.Trailer.read.Goals as goal

pub returns : goal.returns
unfolding trailer_in
returns c =
    let end = c.args.end.now in
    let states : c.from_le_bytes.result ≡ number_of (piece 12 2 end) = c.from_le_bytes.ensures ∙ sym (two_at 12 end) in
    λ i. record {
      to_records = c.distance.ensures i;
      to_certificate = c.distance-2.ensures i;
      states = states i;
      situations = get_or end 14 0;
      commands = get_or end 15 0;
      rule_states = get_or end 16 0;
      count = get_or end 17 0;
    }
