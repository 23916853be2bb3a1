-- A name of the code as its bytes.
use Rattle.std.specs.Prelude.{ℕ, List, take}
use Rattle.ruletext.specs.declared.name.Name.{Name}

abbrev pub spelled : Name → List ℕ
spelled n = take n.letters n.bytes
