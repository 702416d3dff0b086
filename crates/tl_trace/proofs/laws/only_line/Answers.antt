use Rattle.tl_trace.proofs.Names.{List, ℕ, lit≤, sym, subst, form_a, form_b, form_c, form_d, form_e, IsLine}
use Rattle.tl_trace.proofs.Spelling.{only_line, is_line}
use Rattle.tl_trace.proofs.laws.only_line.Goals as goal

pub returns-clause-a : goal.returns-clause-a
returns-clause-a c =
    λ version n w b text writable. (
      only_line (form_a version) w b text,
      λ e. let P : List ℕ → Type 0 = IsLine (form_a version) w b in
          subst P (sym e) (is_line (form_a version) (lit≤ tt) w b writable),
    )

pub returns-clause-b : goal.returns-clause-b
returns-clause-b c =
    λ version n w b text writable. (
      only_line (form_b version) w b text,
      λ e. let P : List ℕ → Type 0 = IsLine (form_b version) w b in
          subst P (sym e) (is_line (form_b version) (lit≤ tt) w b writable),
    )

pub returns-clause-c : goal.returns-clause-c
returns-clause-c c =
    λ version n w b text writable. (
      only_line (form_c version) w b text,
      λ e. let P : List ℕ → Type 0 = IsLine (form_c version) w b in
          subst P (sym e) (is_line (form_c version) (lit≤ tt) w b writable),
    )

pub returns-clause-d : goal.returns-clause-d
returns-clause-d c =
    λ version n w b text writable. (
      only_line (form_d version) w b text,
      λ e. let P : List ℕ → Type 0 = IsLine (form_d version) w b in
          subst P (sym e) (is_line (form_d version) (lit≤ tt) w b writable),
    )

pub returns-clause-e : goal.returns-clause-e
returns-clause-e c =
    λ version n w b text writable. (
      only_line (form_e version) w b text,
      λ e. let P : List ℕ → Type 0 = IsLine (form_e version) w b in
          subst P (sym e) (is_line (form_e version) (lit≤ tt) w b writable),
    )
