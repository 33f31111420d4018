-- `all_records` meets its contract: each turn reads one record more.
use mathlib.Core.List.{[]}
use Rattle.tokens.specs.Written.{bytes}
use Rattle.words.proofs.Loops.{begins, less, on}
use Rattle.reports.specs.Report.{one_record}
use Rattle.reports.proofs.Passing.{turn, closing_token, takes_record}
use Rattle.reports.proofs.all_records.Goals as goal

pub loop-cursor-init : goal.loop-cursor-init
loop-cursor-init c = record { so_far = []; leads = begins }

pub loop-cursor-smaller : goal.loop-cursor-smaller
loop-cursor-smaller c = less (takes_record _ []) (on _ _ c.until.ensures c.loop-cursor-test.true) (c.one_record-cursor.ensures []).goes

pub loop-cursor-preserved : goal.loop-cursor-preserved
loop-cursor-preserved c = turn (takes_record _) c.loop-cursor.invariant c.until.ensures c.loop-cursor-test.true c.one_record-cursor.ensures

pub returns : goal.returns
unfolding bytes
returns c =
    closing_token "}" (one_record _) [] (takes_record _) c.loop-cursor.invariant c.until.ensures c.loop-cursor-test.false c.due.ensures
