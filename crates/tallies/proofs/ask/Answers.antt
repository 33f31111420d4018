-- Whether it may fail, and the table before it where it shows something under that.
use mathlib.Core.Path.{sym, ◌∙◌}
use Rattle.tallies.proofs.Stored.{flag_is}
use Rattle.tallies.proofs.Grown.{more_then}
use Rattle.tallies.proofs.Others.{other_sum}
use Rattle.tallies.proofs.Asking.{tabled_later}
use Rattle.tallies.proofs.ask.Goals as goal

pub returns-then-byte-ne0 : goal.returns-then-byte-ne0
returns-then-byte-ne0 c =
    let g = c.ask_good.ensures in
    let t = c.ask_table.ensures in
    (more_then g.0 t.0, record { good = λ b. g.1 ((t.0.kept 0).good b); tabled = λ e. tabled_later g.0.table_is (other_sum g.0.only _ c.requires.2) t.1 })

pub returns-else-byte-ne0 : goal.returns-else-byte-ne0
returns-else-byte-ne0 c =
    let g = c.ask_good.ensures in
    (g.0, record { good = g.1; tabled = λ e. absurd (flag_is ((other_sum g.0.only _ c.requires.2).needs ∙ e) (sym c.byte.ensures ∙ c.if-byte-ne0.false)) })
