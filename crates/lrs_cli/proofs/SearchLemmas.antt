-- A search that a new run may do, and what becomes of it where its ledger is attached first.
use Rattle.std.proofs.Common.{arith, ℕ, List, ◌≡◌, ◌∙◌, ◌⊎◌, inl, inr, [], ◌∷◌, refl, length, Option, Ok, Err}
use Rattle.std.specs.List.{Contains}
use Rattle.std.proofs.lemmas.Bool.{ltb-true}
use Rattle.std.proofs.lemmas.List.Elements.{All-contains}
use Rattle.poly_model.specs.declared.listed.Listed.{Listed}
use Rattle.poly_model.specs.declared.kind.WorkKind.TheVariants.{Subtrees}
use Rattle.poly_model.specs.Keys.{IsKey}
use Rattle.poly_model.specs.Labels.{IsRow, coordinates_from, is_row}
use Rattle.poly_model.specs.LexOrder.{rows_in}
use Rattle.poly_model.specs.Spaces.{main_space}
use Rattle.poly_model.specs.Subtrees.{IsSubtreeRoot}
use Rattle.listing_laws.proofs.ListLemmas.{all_members}
use Rattle.dictionary_laws.proofs.Filters.{filter_only}
use Rattle.convert_core.proofs.LinearRows.{feasible_is_consistent}
use Rattle.poly_model.specs.PhaseOne.{IsSearchRoot}
use Rattle.poly_model.specs.Systems.{Polyhedron, cone_of}
use Rattle.poly_io.proofs.Parts.{part_of_all}
use Rattle.poly_reader.specs.Reading.{IsOfItsText}
use Rattle.search_laws.proofs.SearchRoots.{has_search_root}
use Rattle.work_core.specs.Searches.{Search}
use Rattle.disk_core.specs.declared.disk.Disk.{Ghosts as Disk}
use Rattle.disk_core.specs.Contents.{Told}
use Rattle.disk_core.specs.Images.{NothingNew}
use Rattle.disk_core.specs.Moments.{LeavesOnly}
use Rattle.disk_core.proofs.Moments.{joined}
use Rattle.job_ledger.specs.Records.{HasNoRun}
use Rattle.job_text.specs.declared.first_payload.FirstPayload.{FirstPayload}
use Rattle.job_text.specs.FirstPayloads.{first_payload}
use Rattle.job_text.specs.KeyTexts.{IsKeyLabel}
use Rattle.run_state.proofs.FileRows.{few_rows}
use Rattle.workers_io.specs.declared.workers.Workers.{Ghosts as Workers}
use Rattle.run_ledger.specs.Recorded.{search_in}
use Rattle.coordinator_core.specs.declared.options.Options.{Options}
use Rattle.coordinator.specs.Calls.{MayRun, PrintsRecords}
use Rattle.coordinator.specs.Leaving.{HasFront}
use Rattle.lrs_cli.specs.declared.status.Status.{Status}
use Rattle.lrs_cli.specs.Ledgers.{Resources, WritesRecords, WritesRecordsPart, resources}
use Rattle.lrs_cli.specs.Run.{EndsSearch, MaySearch, RunsSearch}
use Rattle.lrs_cli.proofs.CarriedEnds.{carried}

-- ---- what records list
pub whole_of : {E : Type 0} (s : Search) (records : List (List ℕ)) (old new : Option (List ℕ)) (listed : Listed) →
    PrintsRecords {E = E} s records old new (Ok listed) → WritesRecords s records old new listed.rows listed.lines
whole_of s records old new listed p =
    let w = p.writes.whole in
    record { replies = p.replies; is_text = p.is_text; text = w.0; counted = w.1; written = w.2 }

pub part_of : {E : Type 0} (s : Search) (records : List (List ℕ)) (old new : Option (List ℕ)) (stop : E) →
    PrintsRecords {E = E} s records old new (Err stop) → WritesRecordsPart s records old new
part_of s records old new stop p =
    let w = p.writes.part in
    record { replies = p.replies; is_text = p.is_text; text = w.0; is_listing = w.1; written = w.2 }

pub part_of_whole : (s : Search) (records : List (List ℕ)) (old new : Option (List ℕ)) (rows lines : ℕ) →
    WritesRecords s records old new rows lines → WritesRecordsPart s records old new
part_of_whole s records old new rows lines w = record {
  replies = w.replies;
  is_text = w.is_text;
  text = w.text;
  is_listing = w.counted.listing;
  written = part_of_all old new w.text w.written;
}

-- where nothing was left to do, first bytes of what the records list were written
pub parts_of : {E : Type 0} (s : Search) (records : List (List ℕ) → List (List ℕ)) (old new : Option (List ℕ)) (stop : E) (U : Type 0) (F R : List (List ℕ) → Type 0)
    (seen : Option (List ℕ)) → U ⊎ ((texts : List (List ℕ)) × F texts × Told seen (λ f. R texts × PrintsRecords {E = E} s (records texts) old new (Err stop))) →
    U ⊎ ((texts : List (List ℕ)) × F texts × Told seen (λ f. R texts) × Told seen (λ f. WritesRecordsPart s (records texts) old new))
parts_of s records old new stop U F R seen (inl u) = inl u
parts_of s records old new stop U F R seen (inr p) =
    inr (p.0, p.1, λ f told. (p.2 f told).0, λ f told. part_of s (records p.0) old new stop (p.2 f told).1)

-- ---- the search from the root that phase one gives
module _ (p : Polyhedron) (root : List ℕ) (file : IsOfItsText p) (is_root : IsSearchRoot p root) (key : IsKey root) where
  few : IsRow (length (cone_of p).rows)
  few = few_rows p file

  begins : IsSubtreeRoot p root
  begins = (has_search_root p few).may_begin root is_root

  is_label : (k : ℕ) → Contains root k → IsKeyLabel k
  is_label k c =
      let row = All-contains (Contains (rows_in (main_space p begins.free).labels)) root k begins.feasible.dictionary.rows c in
      let l = ltb-true k coordinates_from (filter_only is_row (main_space p begins.free).labels k row).1 in
      omega (arith, l)

  pub may_search : MaySearch (record { work = Subtrees; polyhedron = p; root = root })
  may_search = record {
    work = refl;
    feasible = (has_search_root p few).exactly.0 (root, is_root);
    begins = begins;
    first = record {
      root = record { is_key = key; labels = all_members IsKeyLabel root is_label };
      file = file;
      is_text = refl;
    };
  }

-- a search that may be done is one that the coordinator may run
pub may_run : (first : FirstPayload) → MaySearch (search_in first) → MayRun first
may_run first may = record {
  root = may.first.root;
  file = may.first.file;
  consistent = feasible_is_consistent first.poly (few_rows first.poly may.first.file) may.feasible;
}

-- ---- a ledger that is attached first
module _ {D W : Type 0} (disk : Disk D) (workers : Workers W) (options : Options) (limit : ℕ) (s : Search) (old mid new : D) (w v : W)
    (same : disk.seen mid ≡ disk.seen old) (nothing : NothingNew (disk.images old) (disk.images mid))
    (first : LeavesOnly disk.moment disk.since old mid (disk.images old)) where
  from_old : (P : List ℕ → Type 0) → Told (disk.seen mid) P → Told (disk.seen old) P
  from_old P h f told = h f (same ∙ told)

  leaves_images : LeavesOnly disk.moment disk.since mid new (disk.images mid) → LeavesOnly disk.moment disk.since old new (disk.images old)
  leaves_images l = joined disk.moment disk.since old mid new (disk.images old) (disk.images mid) (disk.images old) first l (λ c i. i) nothing

  more : (texts : List (List ℕ)) (c : List ℕ) → disk.images mid c ⊎ (HasNoRun c ⊎ HasFront (first_payload s ∷ []) texts c) →
      disk.images old c ⊎ (HasNoRun c ⊎ HasFront (first_payload s ∷ []) texts c)
  more texts c (inl i) = inl (nothing c i)
  more texts c (inr h) = inr h

  abbrev from : Resources D W
  from = resources mid w

  abbrev back : Resources D W
  back = resources old w

  abbrev to : Resources D W
  to = resources new v

  ends_attached : (written now : Option (List ℕ)) (U : Type 0) (answer : Status) → EndsSearch disk workers options limit s from to written now U answer →
      EndsSearch disk workers options limit s back to written now U answer
  ends_attached written now U answer e = carried _ _ (record {
    done = λ rows lines e. (e.0, e.1, from_old _ e.2, from_old _ e.3);
    lost = λ lost strays e. (e.0, e.1, e.2, from_old _ e.3);
    overflow = λ o e. (
      e.0,
      elim e.1 [
        | inl own ↦ inl (own.0, own.1, leaves_images own.2)
        | inr told ↦ inr (told.0, told.1, from_old _ told.2)
      ],
    );
    infeasible = λ e. e;
    no_run = λ e. e;
    has_run = λ e. (e.0, e.1, leaves_images e.2, from_old _ e.3);
    bad_ledger = λ place e. from_old _ e;
    ledger_limit = λ need most e. e;
  }) answer e

  pub attached : (written now : Option (List ℕ)) (U : Type 0) (answer : Status) → RunsSearch disk workers options limit s from to written now U answer →
      RunsSearch disk workers options limit s back to written now U answer
  attached written now U answer r = record {
    goes = (
      r.goes.0,
      r.goes.1,
      λ f told. joined disk.moment disk.since old mid new (disk.images old) _ _ first (r.goes.2 f (same ∙ told)) (λ c i. inl i) (more r.goes.0),
    );
    prints = elim r.prints [
      | inl u ↦ inl u
      | inr p ↦ inr (p.0, p.1, from_old _ p.2, from_old _ p.3)
    ];
    ends = ends_attached written now U answer r.ends;
    honest = r.honest;
  }
