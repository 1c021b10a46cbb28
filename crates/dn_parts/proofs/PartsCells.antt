use Rattle.std.proofs.Common.{ℕ, ◌∙◌, arith}
use Rattle.dn_beside.specs.Pool.{Pool}
use Rattle.dn_machine.specs.State.{Machine}
use Rattle.dn_machine.specs.Sound.{IsMachineAt, IsSound}
use Rattle.dn_parts.specs.Cells.{HasUnusedCells}
use Rattle.dn_parts.proofs.PartsRead.{by_words}

-- Cells that weren't claimed are zeros.

cells_at : (p : Pool) (m : Machine) → IsMachineAt p m → HasUnusedCells (record m { words = p.words })
cells_at p m h =
    let t = h.whole.represents.table in
    let c = h.whole.represents.cell_space in
    record {
      word = λ j le lt. t.cells j lt ∙ c.zero j (omega (arith, le, t.cell_count)) lt;
      key = λ j le lt. t.keys j lt ∙ c.no_key j (omega (arith, le, t.cell_count)) lt;
    }

pub has_cells : (segments : ℕ) (m : Machine) → IsSound segments m → HasUnusedCells m
has_cells segments m h = by_words HasUnusedCells h.p m h.at.words (cells_at h.p m h.at)
