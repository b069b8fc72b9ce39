-- `show::Text::put_byte` meets its contract. Assumes nothing.
use Rattle.std.proofs.Common.{rules, arith, refl, ◌≡◌, ◌+◌}
use Rattle.show.proofs.Texts.{one_put}
use Rattle.show.proofs.Text.put_byte.Goals as goal

pub returns-clause-adds : goal.returns-clause-adds
returns-clause-adds c h =
    let e : c.saturating_add-self.result ≡ c.args.self.now.end + 1 = omega (arith, c.saturating_add-self.ensures) in
    record { same_row = refl; written = rw e (one_put _ _ _ _ (search rules) (rw c.from.ensures at c.put_le.ensures)) }
