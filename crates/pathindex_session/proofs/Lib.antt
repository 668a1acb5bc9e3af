mod TextLaws
mod EditLaws
mod AskedLaws
