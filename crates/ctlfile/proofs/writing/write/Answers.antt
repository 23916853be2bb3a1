use Rattle.std.proofs.Common.{◌≡◌, ℕ, ◌+◌, ◌*◌, length, ap, ◌∙◌, arith}
use Rattle.model.specs.File.{tallies}
use Rattle.ctlfile.specs.declared.trailer.Trailer.{Trailer}
use Rattle.ctlfile.proofs.Putting.{refused_said, refused_left, put_said, put_left}
use Rattle.ctlfile.proofs.writing.write.Goals as goal

pub returns-then-buffer-body : goal.returns-then-buffer-body
returns-then-buffer-body g c =
    let A = g.R.Rule.meaning c.args.rule.now in
    let t = c.trailer_for-trailer.result in
    let body = c.body_size-body.result in
    record {
      said = refused_said A c.args.states.now c.args.count t c.trailer_for-trailer.ensures.told body c.body_size-body.ensures.takes c.args.buffer.now c.if-buffer-body.true;
      left = refused_left A c.args.states.now c.args.count t c.trailer_for-trailer.ensures.told body c.body_size-body.ensures.takes c.args.buffer.now c.if-buffer-body.true;
    }

pub returns : goal.returns
unfolding tallies
returns g c =
    let A = g.R.Rule.meaning c.args.rule.now in
    let t = c.trailer_for-trailer.result in
    let body = c.body_size-body.result in
    let m : t.states ≡ length c.args.states.now = ap {B = ℕ} (λ (u : Trailer). u.states) c.trailer_for-trailer.ensures.told in
    let size : c.records_size-records.result ≡ length c.args.states.now * (1 + 2 * t.situations) = c.records_size-records.ensures ∙ ap {B = ℕ} (λ k. k * (1 + 2 * t.situations)) m in
    record {
      said = put_said A c.args.states.now c.args.count t c.trailer_for-trailer.ensures.told body c.body_size-body.ensures.takes c.args.buffer.now c.if-buffer-body.false;
      left =
          put_left A c.args.states.now c.args.count t c.trailer_for-trailer.ensures.told body c.body_size-body.ensures.takes c.args.buffer.now
          c.records_size-records.result c.write_records.new.part c.write_certificate.new.part c.copy_from_slice.new.self
          c.write_records.ensures c.write_certificate.ensures (c.copy_from_slice.ensures.after ∙ c.bytes.ensures) (omega arith) (omega (arith, size, c.body_size-body.ensures.counted)) c.if-buffer-body.false;
    }
