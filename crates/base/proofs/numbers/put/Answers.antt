-- What is left to write, on the bytes so far, gives what is asked: one byte more, and none left.
use Rattle.std.proofs.Common.{ℕ, ◌≡◌, ◌+◌, ◌-◌, ◌%◌, ◌/◌, arith, ap, sym, ◌∙◌}
use Rattle.std.proofs.Math.ListN.{set}
use Rattle.std.proofs.lemmas.List.Edits.{sets}
use Rattle.base.specs.Numbers.{bytes_of}
use Rattle.base.proofs.NumberLaws.{sets_byte, sets_no_byte}
use Rattle.base.proofs.numbers.put.Goals as goal

pub loop-at-preserved : goal.loop-at-preserved
loop-at-preserved c =
    let l = c.loop-at in
    let left = c.args.start + c.args.count - l.at in
    let less : c.args.start + c.args.count - (l.at + 1) ≡ left - 1 = omega arith in
    ap (λ (n : ℕ). sets (set l.list l.at (l.rest % 256)) (l.at + 1) (bytes_of n (l.rest / 256))) less
    ∙ sym (sets_byte l.list l.at left l.rest (omega arith)) ∙ l.invariant

pub returns : goal.returns
returns c =
    let l = c.loop-at in
    sym (sets_no_byte l.list l.at (c.args.start + c.args.count - l.at) l.rest (omega arith)) ∙ l.invariant
