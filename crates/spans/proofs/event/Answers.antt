-- `event` meets its contract: an event counts in its own category alone.
use Rattle.meaning.specs.Edges.{drive, compare, belongs}
use Rattle.spans.proofs.event.Goals as goal

pub returns : goal.returns
unfolding belongs
returns c = λ es h x. (
    let n = c.coded-n.ensures h in
    record {
      drives = c.more-drive.ensures drive c.args.t c.args.e es c.drives.ensures n x.drives;
      compares = c.more-compare.ensures compare c.args.t c.args.e es c.compares.ensures n x.compares;
    })
