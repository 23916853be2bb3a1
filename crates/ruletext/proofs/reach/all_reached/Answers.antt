use Rattle.ruletext.proofs.Meeting.{counted, never}
use Rattle.ruletext.proofs.reach.all_reached.Goals as goal

pub returns-in-Some : goal.returns-in-Some
returns-in-Some c =
    let t = c.args.table.now in
    λ S C inside. counted t.arrows c.args.states.start S C c.args.states.count t.rejecting c.args.states.counted.1 c.args.states.begins inside c.explore.new.met c.in-Some.n c.in-Some.ensures.nodes

pub returns-in-None : goal.returns-in-None
returns-in-None c =
    let t = c.args.table.now in
    λ S C inside.
    let nothing = never t.arrows c.args.states.start S C c.args.states.count t.rejecting c.args.states.counted.1 c.args.states.begins inside c.explore.new.met c.in-None.ensures.nodes in
    (λ e. absurd nothing, λ all. absurd nothing)
