-- Which overflows have a text that is read again.
use Rattle.poly_model.specs.declared.overflow.Overflow.{Overflow}
use Rattle.poly_model.specs.declared.overflow.Place.{Place}
use Rattle.job_text.specs.KeyTexts.{HasKeyText, IsPlaceLabel}

pub record HasPlaceText (place : Place) : Type 0 where
  pub row : IsPlaceLabel place.row
  pub column : IsPlaceLabel place.col

pub record HasOverflowText (o : Overflow) : Type 0 where
  pub key : HasKeyText o.key
  pub a : HasPlaceText o.a
  pub b : HasPlaceText o.b
  pub c : HasPlaceText o.c
  pub d : HasPlaceText o.d
