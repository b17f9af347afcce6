-- The lines of findings as one text.
use Rattle.std.proofs.Common.{◌≡◌, refl, sym, ap, ◌∙◌, List, [], ◌∷◌, ◌++◌, append_assoc}
use Rattle.std.specs.Prelude.{codes}
use Rattle.py_names.specs.declared.items.Finding.{Finding}
use Rattle.py_names.specs.declared.places.Place.{Place}
use Rattle.py_names.specs.Lines.{found_text, line_in}

-- the text of findings is that of the first of them and that of the others
pub texts_join : (ps : List Place) (fs gs : List Finding) → found_text ps (fs ++ gs) ≡ found_text ps fs ++ found_text ps gs
texts_join ps [] gs = refl
texts_join ps (f ∷ fs) gs = ap (λ xs. (line_in ps f ++ codes "\n") ++ xs) (texts_join ps fs gs) ∙ sym (append_assoc (line_in ps f ++ codes "\n") (found_text ps fs) (found_text ps gs))
