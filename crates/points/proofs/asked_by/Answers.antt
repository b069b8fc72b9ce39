use Rattle.std.proofs.Common.{ℕ, ◌-◌, ◌*◌, ◌/◌, ◌^◌, sym, ap, ◌∙◌}
use Rattle.std.specs.Int.Bits.{bit_and}
use Rattle.octets.proofs.Put.{length-piece, each_byte}
use Rattle.points.proofs.Asking.{mask_of, masked_bytes}
use Rattle.points.proofs.asked_by.Goals as goal

pub returns : goal.returns
returns c =
    let p = c.args.item in
    let k = length-piece p.k c.args.book.now p.forward in
    let mask = mask_of p.k c.requires.0 c.requires.1 in
    record {
      k_is = sym k;
      mask_is = mask ∙ ap (λ (x : ℕ). 2 ^ (8 * x) - 1) (sym k);
      commands_is =
          ap (λ (x : ℕ). bit_and x (18446744073709551615 / 2 ^ (64 - 8 * p.k))) c.u64_at-commands.ensures
          ∙ masked_bytes p.k c.args.book.now p.forward _ c.requires.1 (each_byte c.args.book.now c.type_inv.book) mask;
      phi_is = c.phi-phi.ensures;
      psi_is = c.psi-psi.ensures;
    }
