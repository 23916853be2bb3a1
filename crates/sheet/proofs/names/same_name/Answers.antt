use Rattle.std.proofs.Common.{rules}
use Rattle.sheet.proofs.Naming.{longer, alike_by_place}
use Rattle.sheet.proofs.names.same_name.Goals as goal

pub returns-then-a-b : goal.returns-then-a-b
returns-then-a-b c = alike_by_place c.args.a.now c.args.b.now c.all.result c.if-a-b.true (λ e k l m. search rules) (λ e. search rules)

pub returns-else-a-b : goal.returns-else-a-b
returns-else-a-b c = longer c.args.a.now c.args.b.now c.if-a-b.false
