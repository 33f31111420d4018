-- `plotted` meets its contract: 1 to 17; 8; 19; or what the calls of the list leave.
use Rattle.tokens.proofs.Results.{handed_on}
use Rattle.services.proofs.Charting.{plots_refused, plots_drawn, plots_stopped, text_accepted, list_few, counts_roomy, chart_refused, chart_many, chart_full, chart_called}
use Rattle.services.proofs.plotted.Goals as goal

pub returns-in_err-judge : goal.returns-in_err-judge
returns-in_err-judge c =
    let at = c.args in
    rw (handed_on c.from_residual.result _ c.from_residual.ensures.1) (plots_refused (chart_refused at.text.now at.asked.now at.times.now at.letters.now at.counts.now at.spare c.in_err-judge.ensures))

pub returns-then-too_many : goal.returns-then-too_many
returns-then-too_many c =
    let at = c.args in
    plots_refused (chart_many at.text.now at.asked.now at.times.now at.letters.now at.counts.now at.spare c.in_ok-judge.ensures.1 c.too_many.ensures c.if-too_many.true)

pub within-roomy-requires : goal.within-roomy-requires
within-roomy-requires c =
    list_few c.args.asked.now c.too_many.ensures c.if-too_many.false

pub returns-then-roomy-spare : goal.returns-then-roomy-spare
returns-then-roomy-spare c =
    let at = c.args in
    plots_refused (chart_full at.text.now at.asked.now at.times.now at.letters.now at.counts.now at.spare c.in_ok-judge.ensures.1 c.too_many.ensures c.if-too_many.false c.within-roomy.ensures c.if-roomy-spare.true)

pub serve-s-requires : goal.serve-s-requires
serve-s-requires c =
    let at = c.args in
    record {
      accepted = text_accepted c.in_ok-judge.ensures;
      asked_len_bound = (list_few at.asked.now c.too_many.ensures c.if-too_many.false, counts_roomy at.asked.now at.counts.now at.spare c.within-roomy.ensures c.if-roomy-spare.false);
    }

pub returns-in-Some : goal.returns-in-Some
returns-in-Some c =
    let at = c.args in
    plots_stopped
    (chart_called at.text.now at.asked.now at.times.now at.letters.now at.counts.now at.spare c.in_ok-judge.ensures.1 c.too_many.ensures c.if-too_many.false c.within-roomy.ensures c.if-roomy-spare.false)
    c.serve-s.ensures c.in-Some.is

pub returns : goal.returns
returns c =
    let at = c.args in
    plots_drawn
    (chart_called at.text.now at.asked.now at.times.now at.letters.now at.counts.now at.spare c.in_ok-judge.ensures.1 c.too_many.ensures c.if-too_many.false c.within-roomy.ensures c.if-roomy-spare.false)
    c.serve-s.ensures c.in_default.is
