use Rattle.std.proofs.Common.{map, sym, ap, ◌∙◌, subst, arith}
use Rattle.std.proofs.lemmas.List.{take_all}
use Rattle.model.specs.Rules.{together}
use Rattle.synthesis.specs.Tables.{automaton, Agrees}
use Rattle.synthesis.specs.declared.pruning.Numbers.{Numbers}
use Rattle.synthesis.proofs.Gathered.{joins_next, agrees_next, grows_from, numbers_stay}
use Rattle.synthesis.proofs.gathering.gather.Goals as goal

pub beside-arrows-requires : goal.beside-arrows-requires
beside-arrows-requires g c =
    let H = g.R.Rule.meaning c.args.house.now in
    let n = c.empty.ensures in
    let a = n.states in
    let r = grows_from H (map g.T.Rule.meaning c.args.added.now) in
    record {
      joins = record {
        situations = sym (ap (λ (m : Numbers). m.situations) n.numbers ∙ c.situations.ensures.value);
        commands = sym (ap (λ (m : Numbers). m.commands) n.numbers ∙ c.commands.ensures.value);
        room = omega (arith, a, r, c.requires.room);
      };
    }

pub beside-arrows-requires-in-loop-rule : goal.beside-arrows-requires-in-loop-rule
beside-arrows-requires-in-loop-rule g c =
    record {
      joins = joins_next (g.R.Rule.meaning c.args.house.now) g.T.Rule.meaning c.args.added.now c.requires.alike c.requires.room c.loop-rule.rule-index c.rule-item.result (omega arith) c.rule-item.is
          c.loop-rule.arrows c.loop-rule.invariant.0;
    }

pub loop-rule-preserved : goal.loop-rule-preserved
loop-rule-preserved g c = (
  agrees_next (g.R.Rule.meaning c.args.house.now) g.T.Rule.meaning c.args.added.now c.requires.alike c.requires.room c.loop-rule.rule-index c.rule-item.result (omega arith) c.rule-item.is
      c.loop-rule.arrows c.beside-arrows-in-loop-rule.result c.loop-rule.invariant.0 c.beside-arrows-in-loop-rule.ensures.agrees,
  c.beside-arrows-in-loop-rule.ensures.some,
)

pub returns : goal.returns
returns g c =
    let H = g.R.Rule.meaning c.args.house.now in
    let all = map g.T.Rule.meaning c.args.added.now in
    let agrees : Agrees (automaton c.loop-rule.arrows) (together H all) =
    subst (λ xs. Agrees (automaton c.loop-rule.arrows) (together H (map g.T.Rule.meaning xs))) (take_all c.loop-rule.rule-index c.args.added.now (omega arith)) c.loop-rule.invariant.0 in
    let stay = numbers_stay H all c.requires.alike in
    record {
      agrees = agrees;
      some = (
        omega (arith, agrees.situations, stay.0, c.situations.ensures.value, c.situations.ensures.range.0),
        omega (arith, agrees.commands, stay.1, c.commands.ensures.value, c.commands.ensures.range.0),
        c.loop-rule.invariant.1,
      );
    }
