-- Assumes nothing.
use Rattle.std.proofs.Common.{arith, ◌≡◌, ◌+◌, ◌-◌, length}
use native.Mathlib.Nat.{sub-zero}
use Rattle.octets.specs.Le.{bytes_le}
use Rattle.octets.proofs.Le.{length-bytes_le}
use Rattle.octets.proofs.Put.{put_again, put_none}
use Rattle.octets.proofs.Room.{sets_all}
use Rattle.octets.proofs.put_all.Goals as goal

pub loop-b-init : goal.loop-b-init
loop-b-init c = rw sub-zero (sets_all c.args.d.now (bytes_le (length c.args.d.now) c.args.v) (length-bytes_le (length c.args.d.now) c.args.v))

pub loop-b-preserved : goal.loop-b-preserved
loop-b-preserved c =
    let n = length c.args.d.now in
    let l = c.loop-b in
    let e : n - (l.b-index + 1) ≡ n - l.b-index - 1 = omega arith in
    rw e (put_again (bytes_le n c.args.v) (n - l.b-index) l.rest l.b-index l.d l.invariant (λ z. omega arith))

pub returns : goal.returns
returns c =
    let n = length c.args.d.now in
    let l = c.loop-b in
    put_none (bytes_le n c.args.v) (n - l.b-index) l.rest l.b-index l.d l.invariant (omega arith)
