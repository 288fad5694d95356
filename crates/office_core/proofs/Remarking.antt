-- A remark is told exactly where its sentence holds.
use Rattle.std.proofs.Common.{◌≡◌, ℕ, ◌<◌, Bool, true, false, not, ◌&&◌, ◌||◌, List, [], ◌∷◌, Option, Some, None, Ok}
use Rattle.std.proofs.Common.{Err, refl, sym, ap, ◌∙◌, subst, inl, inr}
use Rattle.isad_core.specs.Levels.{rank_of}
use Rattle.isad_core.specs.Values.{text_of}
use Rattle.isad_core.specs.declared.element.Element.TheVariants.{ReferenceCode, Title, Dates, Extent, Creator}
use Rattle.isad_core.specs.declared.values.Values.{Values}
use Rattle.office_core.specs.ImportReply.{told_of}
use Rattle.office_core.specs.Remarks.{way_of, BelongsAbove, HasEssentials, IsPoorTop, IsToldOf, AreToldOf}
use Rattle.office_core.specs.Remarks.{RemarksOnRows}
use Rattle.office_core.specs.declared.command.Command.TheVariants as command
use Rattle.office_core.specs.declared.done.Done.{Done}
use Rattle.office_core.specs.declared.done.Done.TheVariants as done
use Rattle.office_core.specs.declared.done.Remark.TheVariants.{LevelTooHigh, LacksEssential}
use Rattle.office_core.proofs.Common.{Bytes, File, Forest, Remark, Reply, Row, State, Taken, Unit, bad_file}
use Rattle.office_core.proofs.Common.{before_last, false≢true, file_of, intake_of, is_blank_text, is_level_above}
use Rattle.office_core.proofs.Common.{is_some, lacks_essential, last_of, lt-ltb, ltb-true, remark_if, remark_on}
use Rattle.office_core.proofs.Common.{remarks, same_Some, taken_is, with_import}
use Rattle.office_core.proofs.Steps.{step_at}
use Rattle.office_core.proofs.PassedChecks.{passed_import}

-- ---- the six elements

lacks_not : (l c t a d x : Bool) → (l || not (c && (t && (a && (d && (x && true)))))) ≡ true → l ≡ false → c ≡ true
    → t ≡ true → a ≡ true → d ≡ true → x ≡ true → ⊥
lacks_not true c t a d x e hl hc ht ha hd hx = false≢true (sym hl)
lacks_not false false t a d x e hl hc ht ha hd hx = false≢true hc
lacks_not false true false a d x e hl hc ht ha hd hx = false≢true ht
lacks_not false true true false d x e hl hc ht ha hd hx = false≢true ha
lacks_not false true true true false x e hl hc ht ha hd hx = false≢true hd
lacks_not false true true true true false e hl hc ht ha hd hx = false≢true hx
lacks_not false true true true true true e hl hc ht ha hd hx = false≢true e

has_all : (l c t a d x : Bool) → (l || not (c && (t && (a && (d && (x && true)))))) ≡ false
    → (l ≡ false) × (c ≡ true) × (t ≡ true) × (a ≡ true) × (d ≡ true) × (x ≡ true)
has_all true c t a d x e = absurd (false≢true (sym e))
has_all false false t a d x e = absurd (false≢true (sym e))
has_all false true false a d x e = absurd (false≢true (sym e))
has_all false true true false d x e = absurd (false≢true (sym e))
has_all false true true true false x e = absurd (false≢true (sym e))
has_all false true true true true false e = absurd (false≢true (sym e))
has_all false true true true true true e = (refl, refl, refl, refl, refl, refl)

poor : (values : Values) → lacks_essential values ≡ true → HasEssentials values → ⊥
poor values e h =
    lacks_not (is_blank_text values.level) (is_some (text_of ReferenceCode values)) (is_some (text_of Title values)) (is_some (text_of Creator values)) (is_some (text_of Dates values)) (is_some (text_of Extent values))
    e h.level h.code h.title h.creators h.dates h.extent

rich : (values : Values) → lacks_essential values ≡ false → HasEssentials values
rich values e =
    let k = has_all (is_blank_text values.level) (is_some (text_of ReferenceCode values)) (is_some (text_of Title values)) (is_some (text_of Creator values)) (is_some (text_of Dates values)) (is_some (text_of Extent values)) e in
    record { level = k.0; code = k.1; title = k.2; creators = k.3; dates = k.4; extent = k.5 }

-- ---- levels

ranks : (a b : Option ℕ) → is_level_above a b ≡ true
    → (rank : ℕ) × (above : ℕ) × (a ≡ Some rank) × (b ≡ Some above) × (rank < above)
ranks (Some rank) (Some above) e = (rank, above, refl, refl, ltb-true rank above e)
ranks (Some rank) None e = absurd (false≢true e)
ranks None b e = absurd (false≢true e)

not_above : (a b : Option ℕ) (rank above : ℕ) → is_level_above a b ≡ false → a ≡ Some rank → b ≡ Some above
    → rank < above → ⊥
not_above a b rank above e ha hb l =
    false≢true (sym e ∙ (ap (λ o. is_level_above o b) ha ∙ (ap (is_level_above (Some rank)) hb ∙ lt-ltb rank above l)))

-- ---- one row

-- of two units or more, the last is held against the one before it
record LastTwo (way : List Unit) : Type 0 where
  unit : Unit
  parent : Unit
  is_last : last_of way ≡ Some unit
  is_above : last_of (before_last way) ≡ Some parent
  told : (row : ℕ)
      → remark_on row way ≡ remark_if (is_level_above (rank_of unit.values.level) (rank_of parent.values.level)) (LevelTooHigh row)

last_two : (first second : Unit) (way : List Unit) → LastTwo (first ∷ second ∷ way)
last_two first second [] = record { unit = second; parent = first; is_last = refl; is_above = refl; told = λ row. refl }
last_two first second (third ∷ way) =
    let it = last_two second third way in
    record { unit = it.unit; parent = it.parent; is_last = it.is_last; is_above = it.is_above; told = it.told }

two_told : (first second : Unit) (way : List Unit) (row : ℕ)
    → IsToldOf (first ∷ second ∷ way) row (remark_on row (first ∷ second ∷ way))
two_told first second way row =
    let it = last_two first second way in
    subst (IsToldOf (first ∷ second ∷ way) row) (sym (it.told row)) (at it (is_level_above (rank_of it.unit.values.level) (rank_of it.parent.values.level)) refl)
  where
    no_top : IsPoorTop (first ∷ second ∷ way) → ⊥
    no_top p = let e = p.is in absurd (cc)

    at : (it : LastTwo (first ∷ second ∷ way)) (b : Bool)
        → is_level_above (rank_of it.unit.values.level) (rank_of it.parent.values.level) ≡ b
        → IsToldOf (first ∷ second ∷ way) row (remark_if b (LevelTooHigh row))
    at it true e =
        let k = ranks (rank_of it.unit.values.level) (rank_of it.parent.values.level) e in
        inl (refl, record { unit = it.unit; parent = it.parent; is_last = it.is_last; is_above = it.is_above; rank = k.0; rank_above = k.1; level = k.2; level_above = k.3; smaller = k.4 }, no_top)
    at it false e = inr (inr (
      refl,
      (λ h.
          let u = same_Some it.unit h.unit (sym it.is_last ∙ h.is_last) in
          let p = same_Some it.parent h.parent (sym it.is_above ∙ h.is_above) in
          not_above (rank_of it.unit.values.level) (rank_of it.parent.values.level) h.rank h.rank_above e (ap (λ (x : Unit). rank_of x.values.level) u ∙ h.level) (ap (λ (x : Unit). rank_of x.values.level) p ∙ h.level_above) h.smaller),
      no_top,
    ))

one_told : (top : Unit) (row : ℕ) → IsToldOf (top ∷ []) row (remark_on row (top ∷ []))
one_told top row = at (lacks_essential top.values) refl
  where
    none_above : BelongsAbove (top ∷ []) → ⊥
    none_above h = let e = h.is_above in absurd (cc)

    at : (b : Bool) → lacks_essential top.values ≡ b → IsToldOf (top ∷ []) row (remark_if b (LacksEssential row))
    at true e = inr (inl (refl, record { top = top; is = refl; lacks = poor top.values e }, none_above))
    at false e = inr (inr (refl, none_above, (λ p. let k : top ∷ [] ≡ p.top ∷ [] = p.is in let same : top ≡ p.top = cc in p.lacks (subst (λ (x : Unit). HasEssentials x.values) same (rich top.values e)))))

none_told : (row : ℕ) → IsToldOf [] row (remark_on row [])
none_told row = inr (inr (refl, (λ h. let e = h.is_last in absurd (cc)), (λ p. let e = p.is in absurd (cc))))

row_told : (way : List Unit) (row : ℕ) → IsToldOf way row (remark_on row way)
row_told [] row = none_told row
row_told (top ∷ []) row = one_told top row
row_told (first ∷ second ∷ way) row = two_told first second way row

-- ---- all rows

rows_told : (f : Forest Unit) (source : Bytes) (rows : List Row) → AreToldOf f source rows (remarks f source rows)
rows_told f source [] = refl
rows_told f source (row ∷ rows) =
    (remark_on row.row (way_of f source row), remarks f source rows, refl, row_told (way_of f source row) row.row, rows_told f source rows)

abbrev done_reply : Done → Reply
done_reply d = Ok d

same_reply : (a b : Done) → done_reply a ≡ done_reply b → a ≡ b
same_reply a b e = cc

same_marks : (c n s t c' n' s' t' : ℕ) (m m' : List Remark) → done.Import c n m s t ≡ done.Import c' n' m' s' t'
    → m ≡ m'
same_marks c n s t c' n' s' t' m m' e = cc

accepted : (s : State) (source file : Bytes) (r : Taken) → intake_of s source file ≡ r
    → (changed new : ℕ) (marks : List Remark) (same translations : ℕ)
    → done_reply (told_of s.catalogue.forest source r) ≡ done_reply (done.Import changed new marks same translations)
    → ((fault : ℕ × ℕ) → r ≡ Err fault → ⊥)
    → (read : File) × (file_of file ≡ Ok read) × AreToldOf (with_import s r).catalogue.forest source read.rows marks
accepted s source file (Err fault) e changed new marks same translations t ok = absurd (ok fault refl)
accepted s source file (Ok intake) e changed new marks same translations t ok =
    let x = same_marks _ _ _ _ changed new same translations _ marks (same_reply _ _ t) in
    (intake.file, (taken_is s.catalogue source file intake e).read, subst (AreToldOf intake.catalogue.forest source intake.file.rows) x (rows_told intake.catalogue.forest source intake.file.rows))

pub remarks_on_rows : (s : State) → RemarksOnRows s
remarks_on_rows s source file changed new marks same translations =
    step_at (λ t reply. reply ≡ Ok (done.Import changed new marks same translations) → (read : File) × (file_of file ≡ Ok read) × AreToldOf t.catalogue.forest source read.rows marks) s (command.Import source file)
    (λ why e. absurd (cc))
    (λ ok e. accepted s source file (intake_of s source file) refl changed new marks same translations e (no_fault (intake_of s source file) (passed_import s source file ok).faultless))
  where
    no_fault : (r : Taken) → bad_file r ≡ None → (fault : ℕ × ℕ) → r ≡ Err fault → ⊥
    no_fault (Ok intake) h fault e = absurd (cc)
    no_fault (Err other) h fault e = absurd (cc)
