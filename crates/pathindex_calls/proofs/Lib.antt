mod TextLaws
mod CallLaws
