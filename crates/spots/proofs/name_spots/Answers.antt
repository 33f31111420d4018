-- `name_spots` meets its contract: the signals of a name that is known lie below the bound.
use Rattle.tokens.specs.Written.{bytes}
use Rattle.spots.proofs.Entering.{name_entries, name_below}
use Rattle.spots.proofs.name_spots.Goals as goal

pub entries_spots-requires : goal.entries_spots-requires
unfolding bytes
entries_spots-requires c =
    let p = c.requires.spots in
    record { spots_len = (c.requires.spots_len.0, name_below c.args.scope.places.now p.0 c.requires.spots_len.1 p.4 c.old_name-old.ensures c.set_at-set.ensures); spots = (p.0, p.1, p.2, p.3, name_entries c.args.scope.places.now p.0 c.args.scope.lists.now c.args.scope.names p.4 c.old_name-old.ensures c.due-d.ensures c.set_at-set.ensures) }

pub returns : goal.returns
unfolding bytes
returns c = λ ws a us b x. c.entries_spots.ensures ws a us b (name_entries c.args.scope.places.now ws c.args.scope.lists.now c.args.scope.names x c.old_name-old.ensures c.due-d.ensures c.set_at-set.ensures)
