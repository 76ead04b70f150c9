-- For a free column a vector at which all rows are 0 and that ends at its entry.
use Rattle.std.proofs.Common.{◌≡◌, ◌≢◌, ℕ, ◌<◌, pos, length, sym, ◌∙◌}
use Rattle.std.specs.List.{All}
use Rattle.poly_num.specs.Vectors.{Vector, ◌·◌}
use Rattle.poly_model.specs.Systems.{System}
use Rattle.poly_model.specs.Cones.{at, IsTight}
use Rattle.poly_model.specs.FreeColumns.{IsFree}
use Rattle.linear_laws.proofs.FreeLemmas.{slot_from_free}
use Rattle.linear_laws.proofs.LeftSlots.{Left, elimination_leaves, SlotAt, slot_at, parted_at, slot_width, slot_value, slot_vanish}
use Rattle.cone_laws.proofs.RowLemmas.{forms_of, rows_from_forms}
use Rattle.cone_laws.proofs.ColumnLemmas.{free_in_rows}

-- all rows are 0 at the vector; its entry j is not 0, and all behind are
pub record EndsAt (sys : System) (j : ℕ) : Type 0 where
  pub vector : Vector
  pub width : length vector ≡ sys.n
  pub tight : All (IsTight vector) sys.rows
  pub here : at j vector ≢ pos 0
  pub beyond : (i : ℕ) → j < i → at i vector ≡ pos 0

pub ends_at_free : (sys : System) (j : ℕ) → IsFree sys j → EndsAt sys j
ends_at_free sys j f = by (elimination_leaves sys.n (forms_of sys))
  where
    at_slot : (e : Left sys.n (forms_of sys)) → SlotAt e.columns e.slots j → EndsAt sys j
    at_slot e w =
        let s = parted_at e.leaves w in
        record {
          vector = w.c.dual;
          width = slot_width w.ls w.c w.bs j w.slot s;
          tight = rows_from_forms (λ g. g · w.c.dual ≡ pos 0) sys (slot_vanish w.ls w.c w.bs j w.slot s);
          here = λ z. s.frame.nonzero (sym (slot_value w.ls w.c w.bs j w.slot s) ∙ z);
          beyond = w.slot.beyond;
        }

    by : Left sys.n (forms_of sys) → EndsAt sys j
    by e =
        at_slot e (slot_at e.columns e.slots e.leaves.slots_of j (slot_from_free j (free_in_rows sys j f) e.leaves))
