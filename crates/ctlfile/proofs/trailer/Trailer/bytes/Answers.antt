use Rattle.std.proofs.Common.{◌≡◌, ℕ, List, set, replicate, ◌∙◌}
use borrow.Rule.Slice.PartMut.{put_mid}
use Rattle.model.specs.File.{bytes_of, file_mark}
use Rattle.ctlfile.specs.declared.trailer.Trailer.{Trailer}
use Rattle.ctlfile.specs.Trailers.{trailer_bytes}
use Rattle.ctlfile.proofs.Numbers.{four_bytes}
use Rattle.ctlfile.proofs.trailer.Trailer.bytes.Goals as goal

-- zero bytes, written over part by part
put_together : (t : Trailer) (mark records certificate states : List ℕ) → mark ≡ file_mark → records ≡ bytes_of 4 t.to_records → certificate ≡ bytes_of 4 t.to_certificate → states ≡ bytes_of 2 t.states
    → set (set (set (set (put_mid 12 2 (put_mid 8 4 (put_mid 4 4 (put_mid 0 4 (replicate 20 0) mark) records) certificate) states) 14 t.situations) 15 t.commands) 16 t.rule_states) 17 t.count
    ≡ trailer_bytes t
unfolding trailer_bytes
put_together t mark records certificate states a b c d =
    λ i. set (set (set (set (put_mid 12 2 (put_mid 8 4 (put_mid 4 4 (put_mid 0 4 (replicate 20 0) (a i)) (b i)) (c i)) (d i)) 14 t.situations) 15 t.commands) 16 t.rule_states) 17 t.count

pub returns : goal.returns
returns c =
    let t : Trailer = c.args.self.now in
    put_together t c.copy_from_slice.new.self c.copy_from_slice-2.new.self c.copy_from_slice-3.new.self c.copy_from_slice-4.new.self
    c.copy_from_slice.ensures.after
    (c.copy_from_slice-2.ensures.after ∙ c.to_le_bytes.ensures ∙ four_bytes t.to_records)
    (c.copy_from_slice-3.ensures.after ∙ c.to_le_bytes-2.ensures ∙ four_bytes t.to_certificate)
    (c.copy_from_slice-4.ensures.after ∙ c.to_le_bytes-3.ensures)
