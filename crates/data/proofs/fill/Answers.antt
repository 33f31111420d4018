-- As many as fit stand behind the first n.
use Prim.Native.Nat.{ℕ, ◌+◌, ◌-◌}
use native.Mathlib.Omega.{arith}
use mathlib.Core.Path.{◌≡◌, ap, sym, ◌∙◌}
use lib.ListN.{length, take, drop, replicate, length-take, length-drop, length-replicate}
use Rattle.std.proofs.lemmas.List.{take-replicate}
use Rattle.data.proofs.Over.{wrote_none, wrote_part, wrote_all}
use Rattle.data.proofs.fill.Goals as goal
use Rattle.data.proofs.fill.Goals.{then-n-buffer, else-n-buffer}

pub returns : goal.returns
returns c =
    let small = c.well_formed.0.1 in
    let l = length-replicate c.args.k c.args.x in
    elim c.if-n-buffer.branch [
      | then-n-buffer w ↦
          let fits = w.fitting-times.ensures in
          let times = w.fitting-times.result in
          let part = take ((c.args.n + times) - c.args.n) (drop c.args.n c.args.buffer.now) in
          let long : length part ≡ times = omega (arith, fits, length-take {A = ℕ}, length-drop {A = ℕ}) in
          let written : w.fill.new.self ≡ take times (replicate c.args.k c.args.x) =
          w.fill.ensures.after (λ y h. h)
          ∙ ap (λ (i : ℕ). replicate i c.args.x) long
          ∙ sym (take-replicate times c.args.k c.args.x (omega (arith, fits))) in
          rw w.buffer-is
          (wrote_all {i = times}
          (wrote_part (omega arith) written (omega (arith, fits)) (omega (arith, fits)) (omega (arith, small)))
          (omega (arith, fits))
          (omega (arith, small))
          (omega (arith, c.counted.ensures)))
      | else-n-buffer w ↦ rw w.buffer-is (wrote_all wrote_none (omega arith) (omega (arith, small)) (omega (arith, c.counted.ensures)))
    ]
