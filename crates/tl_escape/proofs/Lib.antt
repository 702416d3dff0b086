mod Inert
