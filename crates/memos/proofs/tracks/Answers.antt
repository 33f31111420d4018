-- Two tests.
use lib.ListN.{length}
use Rattle.memos.proofs.Marking.{tracks_told}
use Rattle.memos.proofs.tracks.Goals as goal

pub returns : goal.returns
returns c =
    tracks_told c.args.level (length c.args.memo.now)
