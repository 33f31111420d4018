-- `event` meets its contract: each of its readers goes where the definition's goes, and the letter of number i is that of the character.
use Rattle.tokens.specs.Written.{bytes}
use Rattle.waves.proofs.Lines.{event_adds}
use Rattle.waves.proofs.event.Goals as goal

pub returns : goal.returns
unfolding bytes
returns c =
    event_adds c.signed_quoted-t.ensures c.letters-l.ensures c.due-cursor.ensures c.letter_at-letter.ensures
