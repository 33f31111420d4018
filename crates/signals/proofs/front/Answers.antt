-- `front` meets its contract: the signals are tidy, as groups need them, and stay the first names of the tables when groups come behind them.
use mathlib.Core.Path.{sym, ap, ◌∙◌}
use native.Mathlib.Omega.{arith}
use Rattle.tokens.specs.Written.{bytes}
use Rattle.meaning.specs.Signals.{Names}
use Rattle.words.proofs.Flow.{then, given, valued, alive_before}
use Rattle.words.proofs.Choice.{there, missing}
use Rattle.signals.specs.Names.{names_of, front as front_due}
use Rattle.signals.proofs.Tidy.{gave, numbered_signals, numbered_tidy, tidy_wider, grown_groups}
use Rattle.signals.proofs.Tables.{names_length, names_first}
use Rattle.signals.proofs.front.Goals as goal

pub signals-s-requires : goal.signals-s-requires
signals-s-requires c =
    let pre' = c.requires in
    pre'

pub groups-g-requires : goal.groups-g-requires
groups-g-requires c =
    let args' = c.args in
    let signals' = c.signals-s in
    let long = names_length args'.text.now signals'.new.places signals'.new.lists signals'.result.count in (
      signals'.ensures.sized,
      λ on.
          let h = gave numbered_signals signals'.ensures.goes on in
          (tidy_wider h.few (numbered_tidy h), omega (arith, h.few), signals'.ensures.chained on),
    )

pub shape_of-places-then-is : goal.shape_of-places-then-is
shape_of-places-then-is c =
    let pre' = c.requires in
    let groups' = c.groups-g in
    groups'.ensures.sized.all ∙ sym pre'.0.all

pub shape_of-lists-then-is : goal.shape_of-lists-then-is
shape_of-lists-then-is c =
    let pre' = c.requires in
    let groups' = c.groups-g in
    groups'.ensures.sized.rows ∙ sym pre'.0.rows

pub returns-then-is : goal.returns-then-is
unfolding front_due bytes
returns-then-is c =
    let args' = c.args in
    let signals' = c.signals-s in
    let is' = c.is in
    let if1' = c.if-is in
    let groups' = c.groups-g in
    let text = args'.text.now in
    let n = signals'.result.count in
    let ss = names_of text signals'.new.places signals'.new.lists n in
    let places = groups'.new.places in
    let lists = groups'.new.lists in
    let m = groups'.result.count in
    record {
      goes =
          then _ signals'.ensures.goes
          (then _ (there "SignalGroups" _ _ is'.ensures if1'.true groups'.ensures.goes)
          (valued given (λ on.
          let h = gave numbered_signals signals'.ensures.goes (alive_before groups'.ensures.goes on) in
          let g = gave (grown_groups _ ss (numbered_tidy h)) groups'.ensures.goes on in
          ap (λ (ns : Names). (ns, names_of text places lists m))
          (sym (names_first text places lists m n ss g.added g.same (names_length text signals'.new.places signals'.new.lists n))))));
      sized = groups'.ensures.sized;
      chained = groups'.ensures.chained;
    }

pub shape_of-places : goal.shape_of-places
shape_of-places c =
    let pre' = c.requires in
    let signals' = c.signals-s in
    signals'.ensures.sized.all ∙ sym pre'.0.all

pub shape_of-lists : goal.shape_of-lists
shape_of-lists c =
    let pre' = c.requires in
    let signals' = c.signals-s in
    signals'.ensures.sized.rows ∙ sym pre'.0.rows

pub returns : goal.returns
unfolding front_due bytes
returns c =
    let signals' = c.signals-s in
    let is' = c.is in
    record {
      goes = then _ signals'.ensures.goes (then _ (missing "SignalGroups" _ _ is'.ensures c.if-is.false) given);
      sized = signals'.ensures.sized;
      chained = signals'.ensures.chained;
    }
